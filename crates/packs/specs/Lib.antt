pub mod Known
pub mod Opened
pub mod Forgotten
pub mod Replayed
pub mod Splits
pub mod Facts
pub mod Packs
pub mod Checking
