-- What is proved of the parsers' promises.
pub mod Once
