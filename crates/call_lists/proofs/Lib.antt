-- Laws of lists of calls.
pub mod Machine
pub mod Turns
pub mod Answers
