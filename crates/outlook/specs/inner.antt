pub mod Ways
pub mod Tables
pub mod Changes
pub mod Searching
pub mod Showing
