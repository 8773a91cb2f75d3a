-- What is known of the exports beyond their own promises.
pub mod Alike
