pub mod Outlooks
pub mod inner
