-- Tests in general: Tests. Words, bytes and bits: Word, Bytes, Bits, Fits. Multiply and divide: Readings, Quotients, Products, Edges.
pub mod Tests
pub mod Word
pub mod Shifts
pub mod Bytes
pub mod Arrays
pub mod Puts
pub mod Bits
pub mod Fits
pub mod Readings
pub mod Quotients
pub mod Products
pub mod Edges
