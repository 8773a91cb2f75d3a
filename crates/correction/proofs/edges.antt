-- Texels too far from the outline for any edge, the medians of two rows, and a row that is painted.
pub mod Far
pub mod Room
pub mod Byte
