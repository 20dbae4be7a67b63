-- What the contracts of this crate cite.
pub mod Counted
pub mod Filled
pub mod Marked
