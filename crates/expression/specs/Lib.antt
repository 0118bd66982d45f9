pub mod Formulas
pub mod Writing
pub mod Values
pub mod Faults
pub mod Expressions
pub mod inner
