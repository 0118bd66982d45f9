pub mod Bits
pub mod Spelling
pub mod Walking
pub mod Uniqueness
mod MarkTexts
pub mod Subsets
