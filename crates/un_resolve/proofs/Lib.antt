pub mod Checking
pub mod NoMemory
pub mod Tiers
pub mod StartsStand
pub mod Isolating
pub mod WalksAsked
