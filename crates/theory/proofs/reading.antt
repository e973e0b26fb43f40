-- Texts of formulas and proofs, and how they are read.
pub mod ReadingMachine
pub mod ReadingRows
pub mod PrintedTokens
pub mod ReadingLemmas
pub mod LimitLemmas
pub mod NumberTexts
pub mod TextRows
pub mod OneReading
