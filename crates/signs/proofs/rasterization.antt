-- Matches and votes, and the texels that are gone through one after another.
pub mod Votes
pub mod Steps
pub mod Together
