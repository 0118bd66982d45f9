pub mod Moves
pub mod Stepping
pub mod Meaning
