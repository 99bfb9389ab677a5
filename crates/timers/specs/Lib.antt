pub mod Timing
pub mod Timed
pub mod Counting
pub mod TimersOf
pub mod Paces
pub mod Registers
