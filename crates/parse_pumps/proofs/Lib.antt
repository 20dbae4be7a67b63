-- What the proofs of this crate, and of store_links, use.
pub mod PumpLaws
pub mod Once
