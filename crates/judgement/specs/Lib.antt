pub mod Entries
pub mod Courses
pub mod Steps
pub mod Clips
