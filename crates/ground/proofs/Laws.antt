-- What the crates above may know of lists, searches and what they spend, tests, checks, NaN patterns and writing, and that each promise determines its answer.
pub mod Bools
pub mod Search
pub mod Count
pub mod Spent
pub mod Sums
pub mod Fill
pub mod Painted
pub mod Picked
pub mod Nan
pub mod Refuse
pub mod Join
pub mod Write
pub mod Alike
