pub mod Forms
pub mod Rows
pub mod Words
pub mod Table
pub mod Requests
