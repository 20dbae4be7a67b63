-- What the contracts of this crate cite, and the rows that document 01 marks (P).
pub mod Cut
pub mod Times
pub mod Products
pub mod Rows
