-- Theorems is what to cite; the others are the laws behind it.
pub mod Theorems
-- reading commutes with forgetting where names stand
pub mod Erasure
pub mod Carry
pub mod NodeLaws
pub mod LinkLaws
pub mod SeriesLaws
pub mod TimeLaws
pub mod RuleLaws
-- no refusal has the number 0; a struck text is read; what the public functions say of a refused piece
pub mod Fairness
pub mod Struck
pub mod Exactly
-- names are written in the text; the tables lose nothing
pub mod WrittenLaws
pub mod Kept
pub mod Readings
pub mod Widths
pub mod Encoding
-- what a group that is taken stores, and that it stays
pub mod Untouched
pub mod GroupLaws
pub mod Taken
