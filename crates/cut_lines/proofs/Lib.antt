-- Room for a line: Putting, Lengths. A line and a whole input, read in blocks: Reading, Texts, Blocks. Worked inputs: Examples.
pub mod Putting
pub mod Lengths
pub mod Reading
pub mod Texts
pub mod Blocks
pub mod Examples
