pub mod RowLemmas
pub mod PlacedLemmas
pub mod LineLemmas
pub mod ReadingLemmas
