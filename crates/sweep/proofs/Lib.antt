-- What a visit changes, and when it is not refused: Laws. All visits from granule 0 to the last: Pass. Visits that are worked out: Worked.
pub mod Laws
pub mod Pass
pub mod Worked
