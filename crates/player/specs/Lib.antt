pub mod Promises
pub mod Printed
pub mod Claims
