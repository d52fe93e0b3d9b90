pub mod Held
pub mod FirstRefusal
pub mod Makings
mod Samples
pub mod Fitting
pub mod EditsFit
pub mod Lines
