pub mod Landing
pub mod Looking
pub mod Picking
pub mod WordSteps
