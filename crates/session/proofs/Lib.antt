pub mod TrailTruths
pub mod NeededLemmas
pub mod AskedLemmas
pub mod LoadedLemmas
pub mod GatheredLemmas
pub mod NamingLemmas
