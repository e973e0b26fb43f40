pub mod Ahead
pub mod Facts
pub mod Kept
pub mod Stored
