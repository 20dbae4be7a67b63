-- Demand3 and Readings are the theorems; Loops, Turn, Stretch and Opened are the laws that the loops of a program use.
pub mod Demand3
pub mod Readings
pub mod Loops
pub mod Turn
pub mod Stretch
pub mod Opened
pub mod Marks
pub mod Forward
pub mod Text
pub mod Cut
pub mod Alike
pub mod Pieces
pub mod Stops
pub mod Told
pub mod OwnLines
pub mod Strike
