-- What the contracts of this crate, and of the records read back, cite; and the laws of the numbers.
pub mod Codes
pub mod CodeLaws
