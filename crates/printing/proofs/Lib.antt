pub mod PutLaws
pub mod Pages
