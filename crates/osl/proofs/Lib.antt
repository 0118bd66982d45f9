pub mod Operators
pub mod Deciding
pub mod Steps
pub mod Places
pub mod Mapped
