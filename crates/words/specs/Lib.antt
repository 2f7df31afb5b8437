pub mod Text
pub mod StepsLaws
pub mod TextLaws
pub mod WordsLaws
