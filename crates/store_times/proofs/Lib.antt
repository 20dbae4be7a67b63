-- What the proofs of this crate use.
pub mod ColonLaws
pub mod OptionLaws
pub mod StoreLaws
