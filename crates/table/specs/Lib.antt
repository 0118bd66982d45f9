pub mod Refusals
pub mod Drawings
pub mod Reading
