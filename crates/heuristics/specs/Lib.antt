-- What the focused search chooses by.
pub mod Ranges
pub mod Modes
pub mod Changes
pub mod Tournaments
pub mod Rankings
pub mod Averages
pub mod Lateness
