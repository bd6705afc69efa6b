-- What a turn and a run of the cutting program come to: Turns. What they do to a reader's and a writer's bytes: Bytes.
pub mod Turns
pub mod Bytes
