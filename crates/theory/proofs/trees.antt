-- Trees of cubes, results, and the one text of a run.
pub mod SearchLemmas
pub mod FirstModel
pub mod ResultLemmas
pub mod FirstModelLemmas
pub mod Budgets
pub mod BudgetRows
pub mod TreeSoundness
pub mod CheckedTrees
pub mod OneText
pub mod CubePlaces
pub mod WholeLists
pub mod OneResult
pub mod Assemblies
pub mod CheckedResults
pub mod Divisions
pub mod BegunSearches
