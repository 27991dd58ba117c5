pub mod Octets
pub mod Talking
pub mod Laws
pub mod Frames
pub mod Recovering
pub mod Carrying
pub mod Matching
