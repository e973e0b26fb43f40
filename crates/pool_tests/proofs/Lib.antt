pub mod Homecoming
pub mod FewHands
