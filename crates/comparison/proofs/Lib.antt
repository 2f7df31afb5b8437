pub mod ComparisonLaws
pub mod PlaceLaws
