pub mod HandlingLaws
