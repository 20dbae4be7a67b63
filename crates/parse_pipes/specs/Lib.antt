-- What the contracts of this crate, of parse_pumps, parse_valves and store_links cite.
pub mod Lines
