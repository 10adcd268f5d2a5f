pub mod CCalls
pub mod Followed
pub mod CDemand3
