-- Sheets' answers as numbers for C: Numbers. Round trips: Trips. Worked examples: Cases, their bytes: Bytes.
pub mod Numbers
pub mod Trips
pub mod Bytes
pub mod Cases
