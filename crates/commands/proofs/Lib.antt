pub mod StatusLemmas
pub mod SessionLemmas
pub mod DratLemmas
