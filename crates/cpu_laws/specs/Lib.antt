pub mod Widths
pub mod Runs
pub mod Laws
