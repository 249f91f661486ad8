pub mod Refusals
pub mod Filters
