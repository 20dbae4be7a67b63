-- What the contracts of this crate cite.
pub mod Bytes
pub mod Digits
pub mod Cap
pub mod Ends
pub mod Runs
