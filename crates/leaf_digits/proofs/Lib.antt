-- What the proofs of several functions use, here and in the crates that link this one.
pub mod Lists
pub mod Classes
pub mod Digits
pub mod Ends
pub mod Runs
