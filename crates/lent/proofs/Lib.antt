pub mod Columns
pub mod Fields
pub mod Making
pub mod Reading
pub mod Settled
