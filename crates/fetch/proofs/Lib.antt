-- Which bytes are asked for: Places. What is fetched: Laws. Where nothing fails: Known.
pub mod Places
pub mod Laws
pub mod Known
