pub mod Capture
pub mod Steps
pub mod LineLaws
pub mod HoldLaws
pub mod Feeding
pub mod FeedingLaws
