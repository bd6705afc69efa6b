-- When a call is refused: Refusals. What a run answers and leaves: Run; its watch record: Watching.
pub mod Refusals
pub mod Run
pub mod Watching
