-- What holds after any list of calls: its statement, and that every call leaves it so.
pub mod Statement
pub mod Going
pub mod Ending
pub mod Carried
pub mod Requests
pub mod Steps
