-- What the proofs of this crate use.
pub mod SeeLaws
pub mod JudgeLaws
