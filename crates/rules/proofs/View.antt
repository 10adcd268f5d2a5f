-- The views: a step, the end of a cycle and a request as transitions, each with the facts that led there.
pub mod Tests
pub mod Boxes
pub mod Step
pub mod End
pub mod Places
pub mod Request
