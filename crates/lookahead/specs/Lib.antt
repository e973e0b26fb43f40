-- What a look at a cube keeps.
pub mod Tables
pub mod Rankings
pub mod Resting
