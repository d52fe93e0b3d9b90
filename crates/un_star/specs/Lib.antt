pub mod Meet
pub mod Links
pub mod Entries
pub mod Errors
pub mod Named
