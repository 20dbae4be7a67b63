-- What the proofs of this crate use, and what is proved of its promises.
pub mod ClauseLaws
pub mod Once
