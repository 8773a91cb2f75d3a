-- Where a pair of channels of one sign has no crossing: what the orders of texels are for.
pub mod Outside
pub mod Near
pub mod Sums
pub mod Squares
pub mod Values
pub mod Core
pub mod Pairs
pub mod Mirror
pub mod Samples
pub mod Texels
pub mod Filter
pub mod Digits
pub mod Codes
pub mod Shown
