pub mod FeatureLaws
pub mod CompatibleLaws
