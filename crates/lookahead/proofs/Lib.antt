pub mod TableLemmas
pub mod HeldCounts
pub mod RankingOrder
pub mod RankingLemmas
pub mod TrailLengths
pub mod LookLemmas
pub mod ArrangedCounts
