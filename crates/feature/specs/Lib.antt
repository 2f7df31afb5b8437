pub mod Reasons
pub mod Outcome
pub mod OutcomeLaws
pub mod RulesLaws
