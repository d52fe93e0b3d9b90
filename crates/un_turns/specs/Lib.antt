pub mod Own
pub mod Turns
pub mod Conversations
pub mod Served
pub mod Truths
pub mod Prepared
pub mod Pasts
pub mod Spans
