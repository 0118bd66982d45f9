pub mod Parsing
pub mod Padding
pub mod Formed
pub mod Drafts
