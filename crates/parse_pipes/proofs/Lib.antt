-- What the proofs of this crate, of parse_pumps, parse_valves and store_links use.
pub mod NameLaws
pub mod Once
