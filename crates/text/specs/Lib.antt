pub mod Lists
pub mod Words
pub mod Lines
pub mod Clean
pub mod Numbers
pub mod NameForms
pub mod Names
pub mod inner
