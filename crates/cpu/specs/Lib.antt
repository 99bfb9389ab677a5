pub mod Codes
pub mod Picking
pub mod Step
