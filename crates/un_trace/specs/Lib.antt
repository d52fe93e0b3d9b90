pub mod Seen
pub mod Included
pub mod Functions
pub mod Controlled
pub mod TraceReply
pub mod Ports
pub mod Table
