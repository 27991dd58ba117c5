pub mod Chunks
pub mod Packets
pub mod WayAccounting
