pub mod Rules
pub mod Stacked
pub mod Schedule
pub mod Places
pub mod Bench
pub mod BenchOf
pub mod Calls
