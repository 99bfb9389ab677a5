pub mod Putting
pub mod Loading
