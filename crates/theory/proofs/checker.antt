-- What the checker accepts, and that it is right.
pub mod PreludeSteps
pub mod Hints
pub mod LeftHints
pub mod AcceptedSteps
pub mod AcceptedPrelude
pub mod FewerClauses
pub mod DeletionsPutIn
pub mod DeletedNumbers
pub mod AcceptedCubes
pub mod AcceptedProofs
pub mod CheckerRows
pub mod DeletionRows
pub mod Soundness
pub mod OtherClauses
