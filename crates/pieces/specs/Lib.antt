pub mod Lines
pub mod Text
pub mod Pieces
pub mod Moves
pub mod Calls
pub mod Claims
