-- Laws of the definitions of specs/, which belong to no one function.
pub mod Derived
pub mod Laws
pub mod Fits
