-- What a status says, what the program has written by it, and what is left of what a command reads.
pub mod Status
pub mod CheckStatus
pub mod Ends
pub mod Inputs
pub mod TidyEnds
pub mod Questions
pub mod ListedModels
pub mod DratEnds
