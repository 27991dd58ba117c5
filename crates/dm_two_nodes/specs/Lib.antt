pub mod Numbering
pub mod Renaming
pub mod Histories
pub mod Stories
pub mod Meeting
pub mod Delivering
