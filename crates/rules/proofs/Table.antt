-- The table of answers holds of the definitions: for requests, steps, runs and openings (specs/Answers).
pub mod Rows
pub mod Requests
pub mod Steps
pub mod Runs
