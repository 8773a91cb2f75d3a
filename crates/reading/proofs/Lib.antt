pub mod Copied
pub mod Laws
mod Printed
