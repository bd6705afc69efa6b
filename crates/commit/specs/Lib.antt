-- What an effect leaves in the buffers: Commit, and byte by byte: Touched. What a run keeps beside them: Kept.
pub mod Commit
pub mod Touched
pub mod Kept
