pub mod Areas
pub mod Records
pub mod Rows
pub mod Distinct
pub mod Places
pub mod Allowed
pub mod OneSlot
