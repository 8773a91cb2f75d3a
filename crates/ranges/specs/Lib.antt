-- The pages of definitions, each after those that it rests on.
pub mod Constants
pub mod Config
pub mod Classifier
