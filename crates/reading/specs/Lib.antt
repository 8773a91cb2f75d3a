pub mod Grammar
pub mod Case
pub mod Decimal
pub mod Text
pub mod Inner
pub mod Answer
