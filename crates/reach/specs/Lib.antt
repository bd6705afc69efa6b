-- What is searched for, and what the search answers: Reach; the same outside a range of granules: Outside. What the loop over memory goes by: Search. Searches
-- worked out: Worked.
pub mod Reach
pub mod Outside
pub mod Search
pub mod Worked
