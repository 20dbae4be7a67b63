-- What the contracts of this crate, and of the section readers, cite.
pub mod Taking
