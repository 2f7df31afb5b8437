pub mod ReadingLaws
pub mod ValuesLaws
pub mod WrittenLaws
pub mod ReadBackLaws
pub mod WalkingLaws
pub mod RevisionLaws
pub mod ResumingLaws
