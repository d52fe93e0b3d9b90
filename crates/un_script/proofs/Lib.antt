mod OpeningTexts
pub mod Refusals
pub mod Statuses
pub mod History
mod Samples
pub mod BuiltIn
pub mod Requests
pub mod Runs
pub mod Endings
pub mod Commands
mod FollowTexts
mod FollowOpens
mod Redone
