-- What an accepted case leaves is what is printed of it.
pub mod Answered
