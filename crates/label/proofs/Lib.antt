-- Which wrong cutters the promises of the functions for C shut out: ShutOut.
pub mod ShutOut
