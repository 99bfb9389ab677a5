pub mod Addition
pub mod Signed
