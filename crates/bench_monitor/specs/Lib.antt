pub mod Computing
pub mod ComputingLemmas
