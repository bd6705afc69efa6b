-- Laws of the definitions of specs/, which belong to no one function.
pub mod Views
pub mod Registers
pub mod Lengths
pub mod Bytes
pub mod Memory
pub mod Records
pub mod Next
