pub mod Laws
pub mod floats
