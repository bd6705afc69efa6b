-- Lists of calls on one capability.
pub mod Calls
pub mod Lists
