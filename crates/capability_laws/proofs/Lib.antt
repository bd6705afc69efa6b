-- The cut is the least region around its request: Region, and demand 3 of the answer: Answers. Addresses in the bounds keep them: Moves.
-- The report's properties: Representable. The worked cases: Cases. Which wrong cutters the promise of a cut shuts out: ShutOut.
pub mod Tests
pub mod Region
pub mod Answers
pub mod Cases
pub mod ShutOut
pub mod Moves
pub mod Compressed
pub mod Windows
pub mod Aligned
pub mod Representable
pub mod Changes
pub mod Derived
pub mod Start
