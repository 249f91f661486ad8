pub mod Refusals
pub mod Areas
pub mod Slots
pub mod Conditions
pub mod Sizes
pub mod Places
pub mod BadLists
pub mod Stocks
