-- What the contracts of this crate cite, and the rows that document 01 marks (P).
pub mod Nearest
pub mod Reach
pub mod Numbers
pub mod Begun
pub mod Rows
