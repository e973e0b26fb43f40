-- What the tests keep true of what they try.
pub mod Counted
pub mod Numbered
