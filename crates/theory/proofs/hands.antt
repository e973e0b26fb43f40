-- What hands do with cubes, one after the other and together.
pub mod OrderSums
pub mod OrderEnds
pub mod HarvestCounts
pub mod Joining
pub mod Rounds
pub mod RoundEnds
pub mod HalvesOn
pub mod Harvests
