pub mod Special
pub mod Operands
pub mod Codes
pub mod Again
pub mod Decoding
pub mod Costs
pub mod Encoding
