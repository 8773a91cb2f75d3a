-- From a value to its byte by one rounding, and what the checks answer.
pub mod Holding
pub mod Answers
