-- That a register's place is one of sixteen: Places.
pub mod Places
