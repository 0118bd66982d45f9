pub mod Refusals
pub mod Forms
pub mod Events
pub mod Declaring
pub mod Questions
