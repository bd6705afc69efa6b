-- A line's parts: Padding, Digits. Sheets as text: Lists, Lines, Walk, Answers, Trips, Readings. As records: Words, Records. Limits: Lengths, Bounds.
pub mod Padding
pub mod Digits
pub mod Lists
pub mod Lines
pub mod Walk
pub mod Answers
pub mod Trips
pub mod Words
pub mod Records
pub mod Lengths
pub mod Readings
pub mod Bounds
