pub mod Dated
pub mod LastDigits
pub mod Seconds
