-- What the proofs of several functions use, here and in the series read back.
pub mod PastLaws
mod Whole
pub mod BackLaws
