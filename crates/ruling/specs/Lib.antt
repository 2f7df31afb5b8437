pub mod Ruling
pub mod RulingLaws
