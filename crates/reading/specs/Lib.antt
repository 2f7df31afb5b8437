pub mod Reading
pub mod Replies
pub mod Revisions
pub mod Promises
pub mod Resuming
pub mod Walking
