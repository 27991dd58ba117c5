pub mod CleanOctets
pub mod JsonPrinted
pub mod Sound
