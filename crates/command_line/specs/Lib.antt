-- The plan and the strategy that the command line asks for.
pub mod Arguments
