-- What the roots of a pair are searched by, and where they need not be.
pub mod Normal
pub mod Searched
pub mod Signs
