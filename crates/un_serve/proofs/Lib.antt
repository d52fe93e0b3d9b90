mod Names
mod History
mod Printable
mod Versions
mod Statuses
mod Gathering
pub mod Comparing
