-- What is kept of a text around a place, and how many lines end in a piece of one.
pub mod Lines
pub mod Excerpts
