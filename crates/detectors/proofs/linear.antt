-- Where a pair is judged without its crossing.
pub mod Signs
