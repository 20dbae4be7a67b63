-- What the proofs of this crate use.
pub mod LineLaws
pub mod StoringLaws
pub mod PatternStoreLaws
