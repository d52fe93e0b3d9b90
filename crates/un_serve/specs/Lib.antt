pub mod Touching
pub mod Printing
pub mod Asking
pub mod Serving
pub mod Running
