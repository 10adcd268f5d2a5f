pub mod Held
pub mod Ruling
pub mod Runs
