pub mod Sizes
pub mod AsFound
pub mod Kept
pub mod Sound
pub mod Runs
pub mod View
pub mod Table
pub mod Demand1
