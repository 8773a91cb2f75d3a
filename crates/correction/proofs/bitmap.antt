-- Where texels and cells lie, and the rows that are gone along.
pub mod Centres
pub mod Stretch
pub mod Sizes
