pub mod Digits
pub mod Telling
pub mod Wording
