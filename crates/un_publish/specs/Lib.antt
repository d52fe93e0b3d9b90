pub mod LogWord
pub mod Rule
pub mod Models
pub mod Faults
pub mod Places
