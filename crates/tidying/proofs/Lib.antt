pub mod OnceLemmas
pub mod TextLemmas
