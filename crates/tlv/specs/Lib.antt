pub mod Refusals
pub mod Layout
pub mod Revisions
pub mod Laws
