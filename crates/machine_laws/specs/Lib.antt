-- What is lent: Lent, Window, Fits. Steps and what they change: Steps, Memory, Integers, Short, Hints, Timer, Editions. Worked steps: Cases, Unsound.
pub mod Lent
pub mod Window
pub mod Editions
pub mod Steps
pub mod Unsound
pub mod Memory
pub mod Integers
pub mod Cases
pub mod Fits
pub mod Short
pub mod Hints
pub mod Timer
