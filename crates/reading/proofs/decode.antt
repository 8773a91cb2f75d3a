-- Where the contours lie, and how long what is decoded is.
pub mod Decoded
