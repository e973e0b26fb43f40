-- Which models are given, and the text of them.
pub mod Given
pub mod State
pub mod Texts
pub mod Shown
pub mod Written
