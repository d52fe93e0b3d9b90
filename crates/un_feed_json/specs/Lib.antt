pub mod Names
pub mod Sorting
pub mod Shown
pub mod Fits
pub mod Forms
pub mod Lines
pub mod Sound
pub mod ReadBack
