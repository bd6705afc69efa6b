-- What is held outside hidden granules, and two states that differ in them: Outside. Calls one after another: Calls. That what nothing held outside may read
-- makes no difference outside: Secrecy; that what it may not write stays: Isolation. Two machines that differ where they may not read: Worked.
pub mod Outside
pub mod Calls
pub mod Secrecy
pub mod Isolation
pub mod Worked
