-- What a session keeps, and what its answers mean.
pub mod Answers
pub mod State
pub mod Naming
pub mod Outward
pub mod Choosing
pub mod Loading
pub mod Needing
pub mod Asking
