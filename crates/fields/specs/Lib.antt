pub mod Fields
pub mod ReadingLaws
