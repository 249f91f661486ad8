pub mod Numbers
pub mod Keys
pub mod Suites
pub mod Long
pub mod Short
