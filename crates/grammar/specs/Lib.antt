pub mod Grammar
pub mod GrammarLaws
