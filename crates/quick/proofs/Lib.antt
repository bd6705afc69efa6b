-- Entries: Look, Forget. Where PCC goes: Onward, Targets. Reach: Inside, Reach, Accesses. Turns and the loop: the others, up to Turning; its rests: Resting.
pub mod Look
pub mod Onward
pub mod Targets
pub mod Families
pub mod Inside
pub mod Reach
pub mod Accesses
pub mod Steady
pub mod Quiet
pub mod Arms
pub mod Standing
pub mod Turning
pub mod Resting
pub mod Forget
