pub mod AheadLemmas
pub mod KeptResults
pub mod SentKernels
