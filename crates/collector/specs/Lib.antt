pub mod Boxed
pub mod Decide
pub mod Answer
