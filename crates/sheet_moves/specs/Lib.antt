-- What the contracts of this crate cite; and the sums of the crew sheet.
pub mod Moves
pub mod Sums
