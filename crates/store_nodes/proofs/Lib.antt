-- What the proofs of several functions use.
pub mod StoreLaws
pub mod LineLaws
