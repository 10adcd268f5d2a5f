-- The relation between a box and the history machine: its statement, and that every step and request keeps it.
pub mod Statement
pub mod Still
pub mod Registers
pub mod NewTuple
pub mod Store
pub mod Hold
