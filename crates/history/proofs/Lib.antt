-- The proof of demand 3, in reading order; docs/PROOF.md tells the argument.
pub mod Lists
pub mod Invariant
pub mod Marking
pub mod Sweep
pub mod Moving
pub mod Asking
pub mod Left
pub mod Relation
pub mod Spared
pub mod Census
pub mod Good
pub mod Theorem
