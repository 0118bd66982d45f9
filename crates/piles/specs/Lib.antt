pub mod Refusals
pub mod Stubs
pub mod Delays
pub mod Pairs
pub mod DelaysLemmas
pub mod StubsLemmas
pub mod PairsLemmas
pub mod Besides
