pub mod Dates
pub mod Digits
pub mod Elapsed
pub mod Ends
pub mod Fronts
pub mod JsonFronts
pub mod Laws
pub mod Times
