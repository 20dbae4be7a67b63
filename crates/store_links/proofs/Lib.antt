-- What the proofs of this crate use.
pub mod StoreLaws
pub mod LineLaws
