-- What the proofs of the records read back use.
pub mod WordLaws
