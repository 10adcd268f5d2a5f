pub mod Held
pub mod Stretch
