pub mod Counts
pub mod Unchanged
