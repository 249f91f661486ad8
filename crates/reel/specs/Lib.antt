pub mod Books
pub mod States
