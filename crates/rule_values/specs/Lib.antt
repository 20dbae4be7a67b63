-- What the contracts of this crate, and of rule_clauses, cite.
pub mod Values
