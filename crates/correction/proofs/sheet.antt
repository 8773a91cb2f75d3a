-- What the checks of a sheet leave for the passes on its cells, which of them answers, where the cells lie, and what correcting them one after the other leaves.
pub mod Places
pub mod Laid
pub mod Contents
pub mod Failures
pub mod Corrected
pub mod Handed
pub mod Summed
pub mod Filled
pub mod Answered
