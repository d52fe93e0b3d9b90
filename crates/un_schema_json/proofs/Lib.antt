pub mod Lengths
pub mod Catalogs
pub mod TierLists
pub mod Sound
