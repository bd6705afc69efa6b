-- What a hit is: Laws. Touches at the ends of ranges and counts, computed: Worked.
pub mod Laws
pub mod Worked
