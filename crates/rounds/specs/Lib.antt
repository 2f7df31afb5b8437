pub mod Rounds
pub mod Round
pub mod RoundLaws
