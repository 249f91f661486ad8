pub mod Domain
pub mod Field
pub mod Rows
pub mod Fields
pub mod Certificate
pub mod Elems
pub mod Cyclic
