-- What every decoded instruction keeps to: Range. Words and their meanings, computed: Table.
pub mod Range
pub mod Table
mod Rows
