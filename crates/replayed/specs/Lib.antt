pub mod Replay
pub mod Report
pub mod Replayed
