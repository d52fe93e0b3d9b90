pub mod Differences
pub mod Follows
pub mod Laws
