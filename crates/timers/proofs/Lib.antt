pub mod Steps
pub mod Stretch
pub mod Paces
