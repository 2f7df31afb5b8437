pub mod Sending
pub mod SendingLaws
