-- What the edition decides: Editions. Jumps over the editions: Jumps; their lengths: Lengths; as the report alone has them: Report; one jump in both
-- editions: Compared.
pub mod Editions
pub mod Jumps
pub mod Compared
pub mod Lengths
pub mod Report
