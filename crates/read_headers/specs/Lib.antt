-- What the contracts of this crate cite.
pub mod Own
pub mod Sections
