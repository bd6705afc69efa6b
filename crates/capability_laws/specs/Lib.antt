-- What the laws speak of, demand 3 of one cut, and the worked cases.
pub mod Decoded
pub mod Authority
pub mod Cuts
pub mod Cases
