pub mod Flats
pub mod FlatHeld
pub mod FlatArea
