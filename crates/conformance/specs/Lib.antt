pub mod Conformance
pub mod Steps
pub mod Text
pub mod TextLaws
