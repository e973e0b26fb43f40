-- What steps are seen as is said in the crate `theory`.
pub mod Steps
pub mod Words
pub mod Faults
pub mod LineWords
pub mod LineMachine
pub mod LineStates
pub mod Streams
pub mod Begun
pub mod Pieces
pub mod Runs
