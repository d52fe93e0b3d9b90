pub mod Keyed
pub mod Words
pub mod Changes
pub mod Refusals
pub mod Edits
pub mod Fitting
