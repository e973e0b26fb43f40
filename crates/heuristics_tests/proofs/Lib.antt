pub mod Numbered
pub mod FirstScores
