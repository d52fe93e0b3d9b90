pub mod Inserting
pub mod Places
pub mod Putting
pub mod Gathering
pub mod Taking
pub mod Leaving
pub mod Rows
pub mod Changing
