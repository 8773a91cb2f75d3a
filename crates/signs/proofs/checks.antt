-- What passing the checks says, and which of them answers.
pub mod Passed
pub mod Refusals
