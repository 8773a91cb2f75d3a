-- What a window's rows are.
pub mod Painting
pub mod Rows
