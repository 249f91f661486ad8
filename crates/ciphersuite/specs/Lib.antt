pub mod Tallies
pub mod Meaning
pub mod Keys
