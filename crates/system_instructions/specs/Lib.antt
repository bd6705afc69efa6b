-- Fences, calls, CSRs and special registers: System.
pub mod System
