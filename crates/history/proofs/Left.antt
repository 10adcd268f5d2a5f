-- The steps left in a cycle: the count, its bounds, and that it falls with every step.
pub mod Count
pub mod Falls
pub mod Bounds
pub mod Marks
pub mod Sweeps
pub mod Rules
pub mod Same
pub mod Steps
