-- Laws of the definitions of specs/, which belong to no one function.
pub mod Rounding
pub mod Exponent
pub mod Suggested
pub mod Program
pub mod Limits
pub mod Decode
pub mod Wrapped
pub mod Blocks
pub mod Fits
pub mod Answers
