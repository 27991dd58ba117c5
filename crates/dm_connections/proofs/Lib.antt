pub mod Placing
pub mod Results
pub mod Sums
