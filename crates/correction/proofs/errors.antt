-- What is known of the texels around one, of the verdicts on them, and of the rows that have been gone through.
pub mod Beside
pub mod Nearby
pub mod Passed
pub mod Rows
pub mod Tried
