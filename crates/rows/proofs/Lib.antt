mod Tallies
mod Streams
mod Counted
pub mod Meaning
pub mod Bounds
