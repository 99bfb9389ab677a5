pub mod Numbers
pub mod Sets
pub mod Levels
pub mod Of
