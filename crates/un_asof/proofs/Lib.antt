pub mod Checks
pub mod Keeping
pub mod Leading
pub mod Standing
