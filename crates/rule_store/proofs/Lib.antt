-- What the proofs of this crate use.
pub mod GoingLaws
pub mod EraseLaws
pub mod GroupLaws
