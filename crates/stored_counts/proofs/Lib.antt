-- What the proofs of several functions use, here and where a record is read back.
mod CountsLaws
pub mod RoomLaws
