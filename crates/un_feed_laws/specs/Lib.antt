pub mod Ranges
pub mod Fresh
pub mod Typed
pub mod Edits
pub mod States
pub mod Pages
