pub mod Osl
pub mod Published
pub mod Terms
pub mod Traces
pub mod Sets
pub mod Matching
pub mod Resolving
pub mod inner
