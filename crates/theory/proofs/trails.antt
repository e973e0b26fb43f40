-- Trails: their lawful form, entries and levels.
pub mod TrailLists
pub mod LawfulTrails
pub mod TrailEntries
pub mod TrailLevels
pub mod LawfulRows
