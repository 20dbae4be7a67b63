-- What is proved of the parsers' promises, and what the section readers use.
pub mod TextLaws
pub mod Once
