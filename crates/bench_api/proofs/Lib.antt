-- A pass through the function for C: Passes. A run with its watch record, computed: Worked. Which wrong machines the promises for C shut out: ShutOut.
pub mod Passes
pub mod Worked
pub mod ShutOut
