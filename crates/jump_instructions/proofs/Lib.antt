-- Laws of the definitions of specs/, which belong to no one function.
pub mod Laws
pub mod Fits
pub mod Lengths
pub mod Editions
pub mod Compared
