-- Phases 4 and 8: each transition that keeps, releases or zeroes a tuple keeps the invariant.
pub mod Ghosts
pub mod Tuple
pub mod Keep
pub mod MoveBegins
pub mod Release
pub mod Zeroing
pub mod InRange
