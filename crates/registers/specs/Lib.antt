pub mod Psw
pub mod Numbering
pub mod Bench
pub mod Answers
