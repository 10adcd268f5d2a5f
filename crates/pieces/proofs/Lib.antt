pub mod Lines
pub mod Choices
pub mod Entries
pub mod Turns
pub mod Still
pub mod Opened
pub mod Theorem
