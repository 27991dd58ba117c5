pub mod Apart
pub mod FirstLine
pub mod Joining
pub mod Pieces
pub mod Running
pub mod Serving
pub mod Stages
pub mod Turns
