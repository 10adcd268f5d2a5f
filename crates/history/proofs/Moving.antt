-- Phases 5, 6 and 7: each transition of a move keeps the invariant.
pub mod Tuple
pub mod Within
pub mod Copying
pub mod Clearing
pub mod Writing
pub mod Settling
pub mod Leaving
pub mod Ending
