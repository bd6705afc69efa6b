-- Which lent buffers are refused: Refusals. The window of the revocation bits: Windows. The editions: Editions, and a step in both: Compared. What a step
-- keeps, and that a run is its single steps: Kept, Runs, Bytes, Fits; where it is not: Unsound. What a trap changes: Traps. What a step changes in memory,
-- and where a tag comes from: Stores; that a register allows it: Writers. Integer results: Integers. Hints: Hints. Time, the mark and runs without an
-- interrupt: Timer. Which wrong programs the promises of a step and a run shut out: ShutOut. The others serve them; the worked cases of specs/Cases
-- hold: Cases.
pub mod Fetch
pub mod Refusals
pub mod Windows
pub mod Kept
pub mod Runs
pub mod Unsound
pub mod Bytes
pub mod Traps
pub mod Stores
pub mod Writers
pub mod Integers
pub mod Cases
pub mod Worked
pub mod Timer
pub mod ShutOut
pub mod Fits
pub mod Short
pub mod Editions
pub mod Compared
pub mod Hints
