-- What the proofs of several functions use, here and in the crates that link this one.
pub mod CutLaws
pub mod WordLaws
