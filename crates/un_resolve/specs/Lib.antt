pub mod Results
pub mod Kinds
pub mod Starts
pub mod Resolved
pub mod Valves
pub mod Rules
pub mod Walks
