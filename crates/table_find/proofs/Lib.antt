-- What the proofs of several functions use, here and in the crates that link this one.
pub mod LookLaws
pub mod WalkLaws
pub mod StartLaws
pub mod FindLaws
