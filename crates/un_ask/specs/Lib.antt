pub mod Words
pub mod Batches
pub mod Groups
pub mod Replies
