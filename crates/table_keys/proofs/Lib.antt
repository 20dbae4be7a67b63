-- What the proofs of several functions use, here and where names are looked up.
pub mod KeyLaws
mod PackLaws
mod LoopLaws
