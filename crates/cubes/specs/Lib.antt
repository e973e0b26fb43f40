-- The order of a tree's cubes, and what a result is.
pub mod CubeWalks
pub mod Division
pub mod Gathering
pub mod Hands
pub mod Known
pub mod Looks
pub mod Result
pub mod Preparing
pub mod Shares
pub mod Sizes
pub mod Solved
pub mod Source
pub mod Streaming
pub mod Traversal
