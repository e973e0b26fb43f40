pub mod Learning
pub mod OpenStates
