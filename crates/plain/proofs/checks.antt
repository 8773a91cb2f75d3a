-- Which check answers, chosen from all that were made.
pub mod Chosen
