-- Document 01 as definitions, a file for each of its headings, in its order but for "Lines and groups", which stands after the records that its lines store.
-- "Records by section" is long and has a file for each family.
pub mod Spelling
-- Sections read and sections passed over
pub mod Sections
-- Numbers of the answers
pub mod Answers
-- Records by section
pub mod Records
pub mod Values
pub mod Nodes
pub mod Links
pub mod Series
pub mod Times
pub mod Rules
-- Lines and groups
pub mod Lines
-- What a reader of a crew sheet may rely on
pub mod Layout
pub mod Tables
pub mod Reading
pub mod Bare
pub mod Promises
pub mod Written
pub mod Groups
pub mod Rows
