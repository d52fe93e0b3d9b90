pub mod Pages
pub mod Exchanges
pub mod Writing
pub mod Handling
pub mod Links
pub mod Causes
