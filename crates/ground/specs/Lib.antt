pub mod Lists
pub mod Bytes
pub mod Refuse
pub mod Write
