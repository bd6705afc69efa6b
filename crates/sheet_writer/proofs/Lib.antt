-- Lines in their order: Lists. Records judged: Verdicts. The answer made of both: Making.
pub mod Lists
pub mod Verdicts
pub mod Making
