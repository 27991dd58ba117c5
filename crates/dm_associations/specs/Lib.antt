pub mod Associations
pub mod Exchanges
pub mod Fronts
pub mod Laws
pub mod WayAccounts
pub mod Ways
