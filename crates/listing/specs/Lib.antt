pub mod Digits
pub mod Lines
pub mod Listings
pub mod Loadings
pub mod Copies
