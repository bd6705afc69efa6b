-- The search as the loops make it: Search. What the first place is, by cases; refusals, and the promise: Laws; the same outside a range of granules: Passing.
-- Searches worked out: Worked.
pub mod Search
pub mod Laws
pub mod Passing
pub mod Worked
