pub mod Hexadecimal
pub mod Joined
pub mod SideBySide
pub mod Lines
pub mod Numbers
pub mod ReadBack
pub mod Words
