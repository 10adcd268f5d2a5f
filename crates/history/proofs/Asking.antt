-- Requests and the opening: each keeps the invariant.
pub mod Opening
pub mod Places
pub mod InRange
pub mod Steady
pub mod Registers
pub mod NewTuple
pub mod Write
pub mod Store
