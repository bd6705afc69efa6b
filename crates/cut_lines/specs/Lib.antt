-- The cutting program's text: Lines. Its input in blocks: Scanning. The room for a line: Writing.
pub mod Lines
pub mod Scanning
pub mod Writing
