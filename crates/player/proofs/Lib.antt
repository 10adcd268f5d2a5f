pub mod Staying
pub mod Starting
pub mod Fitting
pub mod Whole
pub mod Progress
