pub mod Transcripts
pub mod Verdicts
