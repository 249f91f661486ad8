pub mod Meant
pub mod Making
