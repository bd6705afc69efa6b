-- What each operation gives of a capability: Operations; that none but a link's makes a return sentry: Makers. Properties that no operation breaks: Closed;
-- that no instruction breaks them: Effects; nor what an effect leaves in registers and memory: Registers, Memory. Authority as such a property, a step, a run
-- and calls: Runs; starts that are not refused: Accepted; return sentries as another: Returns; what follows: Consequences. A start as a computed test: Tests;
-- a run that uses its authority: Worked; which wrong machines the claim shuts out: ShutOut.
pub mod Operations
pub mod Makers
pub mod Closed
pub mod Effects
pub mod Registers
pub mod Memory
pub mod Runs
pub mod Accepted
pub mod Returns
pub mod Consequences
pub mod Tests
pub mod Worked
pub mod ShutOut
