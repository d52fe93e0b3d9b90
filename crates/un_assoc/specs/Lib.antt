pub mod Links
pub mod Containing
pub mod Indexes
pub mod Words
pub mod Refusals
pub mod Edits
pub mod Lawful
