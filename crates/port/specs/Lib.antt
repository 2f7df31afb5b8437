pub mod Types
pub mod Parts
pub mod Writing
pub mod WritingLaws
pub mod Replies
pub mod Settled
pub mod Sound
