pub mod Fronts
pub mod Framings
pub mod Taking
pub mod Feeding
