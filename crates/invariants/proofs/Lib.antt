-- Every event keeps a port sound. Assumes nothing.
pub mod Tests
pub mod Outcomes
pub mod Soundness
pub mod Fresh
pub mod Waiting
pub mod Standing
