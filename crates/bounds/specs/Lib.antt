-- Bounds of a word at an address: Bounds. Their cut from a request: Cutting. Lengths and masks that a cut keeps: Lengths.
pub mod Bounds
pub mod Cutting
pub mod Lengths
