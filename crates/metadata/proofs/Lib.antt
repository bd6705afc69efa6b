-- Laws of the definitions of specs/, which belong to no one function.
pub mod Table
pub mod Words
pub mod Joined
pub mod Narrowing
pub mod Narrowed
