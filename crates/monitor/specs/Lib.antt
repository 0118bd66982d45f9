pub mod Keeping
pub mod Words
pub mod Refusals
pub mod Plain
pub mod Closing
pub mod inner
