mod Prefixes
pub mod Turning
pub mod Owning
pub mod Waiting
pub mod Holding
pub mod Reading
pub mod Serving
pub mod Denying
pub mod Truths
pub mod Prepared
pub mod Replying
pub mod Losing
pub mod Recalling
