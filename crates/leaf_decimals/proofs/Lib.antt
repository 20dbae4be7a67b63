-- What the proofs of several functions use, here and in the crates that link this one.
pub mod Whole
pub mod Units
pub mod Rounds
pub mod Rounding
pub mod Products
pub mod Unique
pub mod Tens
pub mod Meaning
pub mod Words
pub mod Reading
pub mod Begun
pub mod Value
