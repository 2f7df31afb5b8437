-- A capture's counts are those of its run: `replayed` in Replayed. Assumes nothing.
pub mod Rows
pub mod Counts
pub mod Replayed
