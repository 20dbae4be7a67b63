-- What a reader of the crate has to believe. Reader and Text are the two to read first; Demand3 and Readings are the words of the
-- theorems in proofs/Demand3.antt and proofs/Readings.antt; Alike is what a concrete reader proves; Turn, Tables and Stretch are
-- what the contracts of a program that reads cite.
pub mod Reader
pub mod Text
pub mod Demand3
pub mod Readings
pub mod Alike
pub mod Turn
pub mod Tables
pub mod Stretch
