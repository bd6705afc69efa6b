-- That what nothing held may write stays: Integrity. What an answer of none says of a range: Reach. A machine with a region that it may not write: Worked.
pub mod Integrity
pub mod Reach
pub mod Worked
