-- Entries of a table: Entries. Names are apart: Apart. Operands that fit: Fit. Words and halves made again of what is listed: Formats, Back, Halves.
-- What is listed of any word: Legal, Listed; of fences, worked: Fences.
pub mod Entries
pub mod Apart
pub mod Formats
pub mod Fit
pub mod Back
pub mod Halves
pub mod Legal
pub mod Listed
pub mod Fences
