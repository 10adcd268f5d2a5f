-- Lists of handles and of numbers of tuples, and sums over them.
pub mod Handles
pub mod Chain
pub mod Laid
pub mod Sums
pub mod Numbers
