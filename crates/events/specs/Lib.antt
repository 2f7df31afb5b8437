pub mod PortEvents
pub mod EventLaws
