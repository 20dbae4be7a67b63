-- What the contracts of this crate cite, and computed rows.
pub mod Counts
pub mod Rows
