pub mod Running
pub mod Standing
