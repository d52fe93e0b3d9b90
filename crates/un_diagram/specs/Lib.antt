pub mod Answer
pub mod Colours
pub mod Diagram
pub mod DiagramLists
pub mod Edges
pub mod Laws
pub mod Places
