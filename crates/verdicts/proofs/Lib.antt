-- The verdict on a capture is the one that its lines have: `judges` in Verdicts. Assumes nothing.
pub mod Walk
pub mod Exact
pub mod Answers
pub mod Calls
pub mod Spelling
pub mod Own
pub mod Verdicts
