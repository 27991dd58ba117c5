pub mod Choices
pub mod Held
