pub mod Answer
pub mod Inner
pub mod Read
