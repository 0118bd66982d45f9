pub mod Cutting
pub mod Joining
pub mod Ending
pub mod Loops
pub mod Decimals
