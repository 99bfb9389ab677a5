pub mod Operands
pub mod Back
pub mod Forth
