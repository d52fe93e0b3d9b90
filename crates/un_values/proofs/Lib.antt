pub mod Shows
pub mod Formed
pub mod Digits
mod NumbersRead
pub mod ReadBack
pub mod Numbers
pub mod Utf8
