-- The choice of a moved end, and the roots of a pair.
pub mod Chosen
