-- The fields of a metadata word: Word. The rights that its code holds: Rights.
pub mod Word
pub mod Rights
