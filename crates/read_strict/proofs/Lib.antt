-- What the proofs of several functions use; and that no second answer fits.
mod StrictLaws
pub mod Once
