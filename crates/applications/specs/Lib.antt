pub mod AllLaws
pub mod OursLaws
pub mod ApplicationsLaws
pub mod KeepingLaws
pub mod Entries
pub mod EntriesLaws
