-- 02, E7. Assumes nothing.
pub mod Events
pub mod Ways
pub mod Given
pub mod Started
pub mod Moments
pub mod Runs
pub mod Ticks
pub mod Recorders
pub mod Needed
