pub mod Steps
pub mod Held
pub mod Staying
pub mod Taken
