-- What is inspected, derived and compared of capabilities by instructions: Derivation.
pub mod Derivation
