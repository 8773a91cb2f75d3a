-- The columns and rows beside a point, the four texels around it, contours.
pub mod Around
pub mod Columns
