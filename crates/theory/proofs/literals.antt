-- Lists, literals, and clauses as sets of them.
pub mod ListLemmas
pub mod LiteralSets
pub mod CubeLiterals
pub mod OverVariables
pub mod RisingSets
pub mod ClauseLemmas
pub mod ClauseWalks
pub mod LiteralLemmas
pub mod TrueClauses
pub mod DistinctLiterals
pub mod Membership
