mod Ascii
pub mod Contents
pub mod Decoded
pub mod Digits
mod Firsts
mod Lookups
mod Marks
pub mod Numerals
mod Places
mod Read
mod Runs
mod Splats
pub mod Splits
pub mod Telling
pub mod Texts
pub mod Wordings
mod Turns
