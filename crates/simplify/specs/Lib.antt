-- The clauses of a simplification as the crate keeps them, and what is made of a formula.
pub mod Entries
pub mod Candidates
pub mod Resolving
pub mod Made
pub mod Stored
pub mod Tried
pub mod Following
pub mod MergedLists
pub mod Tables
pub mod LeastKeys
pub mod Found
pub mod Opening
pub mod Left
pub mod Extending
pub mod Pairs
