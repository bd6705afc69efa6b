-- Ranges and counts of touches: Watch. Touches worked out: Worked.
pub mod Watch
pub mod Worked
