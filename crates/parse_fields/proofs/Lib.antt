-- What the proofs of this crate, and of the section readers, use.
pub mod TakeLaws
pub mod IdLaws
pub mod Once
pub mod TextLaws
