-- Places and buffers: Layout, Registers, Lent, Memory, Fits. What words mean: Addresses, Status, Marks, Timer. Instructions: Checks, Effects.
pub mod Layout
pub mod Registers
pub mod Addresses
pub mod Status
pub mod Marks
pub mod Timer
pub mod Lent
pub mod Memory
pub mod Checks
pub mod Effects
pub mod Fits
