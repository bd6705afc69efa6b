-- One visit of the sweeper: Visits. A pass of visits: Passes. Visits worked out: Worked.
pub mod Visits
pub mod Passes
pub mod Worked
