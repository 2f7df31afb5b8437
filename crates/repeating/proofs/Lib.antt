-- What stands beside the proofs of the functions: what a repeated frame does at every reachable port. Assumes nothing.
pub mod Judging
pub mod Repeated
pub mod Reachable
pub mod HoldingLaws
pub mod RepeatingLaws
