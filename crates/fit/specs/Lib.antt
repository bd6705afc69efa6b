-- Two images and one board: Fit. What fitting gives address by address: Inside.
pub mod Fit
pub mod Inside
