-- Regions and the text of a sheet: Sheet. Their places: Places. Read line by line: Scanning. As seven words: Records. Numbers of refusals: Numbers.
pub mod Sheet
pub mod Places
pub mod Scanning
pub mod Records
pub mod Numbers
