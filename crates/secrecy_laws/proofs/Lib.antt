-- Checks that passed, and what may execute may load: Passed. So the next effect reads nothing hidden: Effects; and a step leaves alike what is: Steps.
-- The state with hidden tags cleared, which holds what is held outside: Blank; beside it, runs: Runs. Calls on the definitions: Calls; calls of code that keeps
-- its promises, and the claims: Promises. What nothing outside may write: Isolation. Both by the answer of `reach_outside`: Answers. Two machines: Worked.
pub mod Passed
pub mod Effects
pub mod Steps
pub mod Blank
pub mod Runs
pub mod Calls
pub mod Promises
pub mod Isolation
pub mod Answers
pub mod Worked
