pub mod Both
pub mod Records
pub mod Ordered
pub mod Clock
