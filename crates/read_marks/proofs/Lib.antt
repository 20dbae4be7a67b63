-- What the proofs of several functions use, here and in the crate that links this one.
pub mod FilledLaws
mod RefilledLaws
