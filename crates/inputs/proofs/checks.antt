-- What the checks answer, and what an answer 0 says.
pub mod Ends
pub mod Found
pub mod Measures
pub mod Passed
pub mod Refusals
