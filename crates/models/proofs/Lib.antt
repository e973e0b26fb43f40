pub mod GivenLemmas
pub mod TextLemmas
pub mod NextLemmas
pub mod RunLemmas
