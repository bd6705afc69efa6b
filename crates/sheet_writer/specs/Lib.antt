-- Records as a sheet's text in a lent buffer: Writing.
pub mod Writing
