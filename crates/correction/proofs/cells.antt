-- What the checks of a sheet's cells say when they pass, and what a search among them answers.
pub mod Areas
pub mod Searches
