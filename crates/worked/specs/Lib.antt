pub mod Trials
pub mod Worked
