pub mod Ticks
pub mod Recorders
pub mod Needed
