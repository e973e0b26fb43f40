-- What the answers of analysis and search mean.
pub mod Learnt
pub mod Outcome
pub mod Plans
pub mod Searching
pub mod Flags
pub mod Numbers
pub mod Saving
pub mod Forgetful
pub mod Focusing
pub mod Solving
pub mod Marks
pub mod PastLines
pub mod Unkept
pub mod Removing
pub mod Units
pub mod Taught
