-- What the crates above may know of the proofs: the laws, and no proof of a function.
pub mod Laws
