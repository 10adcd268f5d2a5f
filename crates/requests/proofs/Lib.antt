pub mod Findings
pub mod Holding
pub mod Stores
