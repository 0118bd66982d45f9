pub mod Products
pub mod Passing
