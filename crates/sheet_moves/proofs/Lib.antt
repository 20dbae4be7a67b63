-- What the proofs of several functions use; that nothing falls out of the counts; that they are those of what was read; and that the sums on the crew sheet are its totals.
pub mod MovesLaws
pub mod Theorems
pub mod Left
pub mod Laid
pub mod Sums
