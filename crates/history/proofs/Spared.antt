-- The tuples that a cycle may keep: what was unreachable as it started is gone as it ends.
pub mod Tracked
pub mod History
pub mod Steps
pub mod Requests
