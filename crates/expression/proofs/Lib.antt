pub mod Parsing
pub mod Spelling
pub mod Drafting
pub mod Wholes
pub mod Truths
pub mod Arrays
pub mod Showing
