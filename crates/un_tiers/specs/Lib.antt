pub mod Raw
pub mod Faults
pub mod Lists
pub mod Code
