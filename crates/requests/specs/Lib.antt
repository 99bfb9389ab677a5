pub mod Request
pub mod All
pub mod At
pub mod Of
