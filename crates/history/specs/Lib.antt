pub mod Machine
pub mod Agreement
pub mod Calls
pub mod Demand3
pub mod Played
