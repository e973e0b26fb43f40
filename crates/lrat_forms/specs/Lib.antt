-- The forms in which proofs come.
pub mod Comments
pub mod Forms
pub mod PlainLines
pub mod Remaining
