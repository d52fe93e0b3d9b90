pub mod Pointed
pub mod Within
mod Thinned
pub mod Replaced
mod Covered
