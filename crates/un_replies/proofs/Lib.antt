pub mod RefusalTexts
pub mod Plain
pub mod Steps
pub mod Groups
pub mod CommandTexts
pub mod ReachTexts
pub mod Commands
pub mod Shows
mod Samples
mod FormedReplies
pub mod ReadBack
pub mod Utf8Replies
