-- A step leaves what nothing held may write: Steps; and runs and calls: Runs; what follows: Consequences; what an answer of none says: Reach; a machine with a
-- region that it may not write: Worked.
pub mod Steps
pub mod Runs
pub mod Consequences
pub mod Reach
pub mod Worked
