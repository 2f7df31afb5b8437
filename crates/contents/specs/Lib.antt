pub mod Contents
pub mod ContentsLaws
