-- What the proofs of several functions use, here and in the crate that links this one.
pub mod GroupLaws
pub mod StepLaws
pub mod WayLaws
