-- Loads and stores, their checks and places: Access.
pub mod Access
