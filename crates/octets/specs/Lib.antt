pub mod Words
pub mod Octets
pub mod Texts
pub mod Laws
