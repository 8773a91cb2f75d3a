-- Clipped columns, the four texels around a point, contours, and painting in a window.
pub mod Around
pub mod Clips
pub mod Contours
pub mod Strokes
