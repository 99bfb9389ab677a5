pub mod Text
pub mod Appends
pub mod Sheet
pub mod Faults
pub mod Load
pub mod Machine
pub mod Play
