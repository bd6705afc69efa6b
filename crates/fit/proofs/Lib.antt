-- What fits stays inside: Inside. Which image is chosen: Choosing.
pub mod Inside
pub mod Choosing
