pub mod Records
pub mod WordTexts
pub mod Evenings
