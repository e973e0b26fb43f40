-- How a formula is decided, what that comes to, and the texts that are written of it.
pub mod Strategies
pub mod Choosing
pub mod Begun
pub mod Deciding
pub mod Settled
pub mod Lowering
pub mod Texts
