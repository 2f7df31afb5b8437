pub mod Calls
pub mod Rows
pub mod Table
pub mod Demand1
pub mod Sound
pub mod Independent
pub mod Logged
pub mod FourPorts
