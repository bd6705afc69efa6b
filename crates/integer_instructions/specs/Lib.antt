-- What LUI, OP-IMM and OP compute of address words: Integer.
pub mod Integer
