-- The invariant of every grown box: its statement, what the transitions share, and the theorems.
pub mod Statement
pub mod Stages
pub mod Words
pub mod Frame
pub mod Resting
pub mod Fixed
pub mod CycleEnd
pub mod Stepping
pub mod Theorems
