pub mod Refusals
pub mod Replies
pub mod ReadBack
pub mod Commands
pub mod Pieces
pub mod Lines
