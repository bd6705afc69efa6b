-- What is listed: Shapes. Of each instruction its name, fixed bits, format and shape: Rows; of halves: ShortShapes. Back to the word: Encoding.
pub mod Shapes
pub mod Rows
pub mod ShortShapes
pub mod Encoding
