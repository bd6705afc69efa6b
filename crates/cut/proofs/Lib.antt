-- What a turn and a run come to: Blocks. What they do to a reader's and a writer's bytes: Moves.
pub mod Blocks
pub mod Moves
