pub mod Intakes
pub mod Fronts
pub mod Held
pub mod Naming
pub mod Staying
pub mod Hearing
pub mod Acquaintances
pub mod Raised
