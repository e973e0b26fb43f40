-- Simplification before a search: what it keeps, and that its lines are accepted.
pub mod ListTests
pub mod Elimination
pub mod Resolvents
pub mod Simplifications
pub mod SimplifiedModels
pub mod AcceptedSimplifications
pub mod WithinLimits
pub mod NumberedClauses
pub mod Eliminations
pub mod Trials
pub mod FewClauses
pub mod SimplifyingRows
pub mod WholeRows
