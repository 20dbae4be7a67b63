-- What the proofs of several functions use, here and in the crates that link this one.
pub mod ScanLaws
pub mod LineLaws
pub mod EndLaws
pub mod TrimLaws
