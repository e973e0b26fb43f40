-- The numbers of faults, when an answer is right, and what a run has read and written.
pub mod Faults
pub mod Answer
pub mod AtLimit
pub mod Run
pub mod Answered
pub mod Limited
pub mod Ending
pub mod Check
pub mod Drat
pub mod Tidy
pub mod Stored
pub mod AtOnce
pub mod Streamed
pub mod Written
pub mod Parts
