pub mod Expected
pub mod Demand3
pub mod Recorders
pub mod Handover
pub mod Starting
pub mod Revisions
pub mod RoundTrip
