-- What the proof of read_tank cites.
pub mod TankLaws
