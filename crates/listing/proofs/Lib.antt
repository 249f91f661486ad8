mod Pairs
mod Cuts
mod Writes
mod Room
mod Declines
pub mod Shapes
mod Round
mod Causes
