-- What the proofs of several functions use, here and in the crates that link this one.
pub mod Choice
pub mod Parts
pub mod Colon
pub mod Units
pub mod Cut
pub mod Products
pub mod Times
