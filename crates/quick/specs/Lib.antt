-- What the second engine keeps: Entries, Rows. What a turn promises: Turns, Jumps, Memory, Steady. What its loop keeps: Running.
pub mod Entries
pub mod Rows
pub mod Turns
pub mod Jumps
pub mod Memory
pub mod Steady
pub mod Running
