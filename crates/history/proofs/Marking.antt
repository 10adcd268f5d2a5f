-- Phases 0 to 3: each transition of marking keeps the invariant.
pub mod Alike
pub mod Shade
pub mod Start
pub mod Scan
pub mod Complete
pub mod InRange
