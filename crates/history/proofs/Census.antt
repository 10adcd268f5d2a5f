-- The tuples of the history machine, counted: the reachable ones, those of the directory at rest, and the answer to a hold.
pub mod Reach
pub mod Directory
pub mod Answers
