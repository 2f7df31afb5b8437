pub mod HaltingLaws
