pub mod Rebuilding
pub mod Gathered
pub mod Preparing
pub mod Renewed
pub mod Inside
