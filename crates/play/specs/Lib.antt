pub mod Hand
