-- What the proofs of several layers share.
pub mod Every
