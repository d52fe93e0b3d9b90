pub mod Parts
pub mod Table
pub mod Lines
pub mod Sound
