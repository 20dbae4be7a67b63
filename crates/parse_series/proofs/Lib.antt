-- What the proofs of this crate, and of store_patterns, use.
pub mod PatternLaws
pub mod Once
