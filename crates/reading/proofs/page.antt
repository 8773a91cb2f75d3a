-- What is put on a page after what.
pub mod Puts
