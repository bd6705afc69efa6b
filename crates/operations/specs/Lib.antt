-- What an operation of the second engine stands for: Means.
pub mod Means
