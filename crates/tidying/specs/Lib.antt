pub mod Tidied
pub mod Texts
