-- What the proofs of both readings use.
mod LowLaws
pub mod RoomLaws
