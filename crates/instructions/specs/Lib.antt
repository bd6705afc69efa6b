-- Fields of a word: Fields. What it means: Decode. What every instruction keeps to: Range.
pub mod Fields
pub mod Decode
pub mod Range
