pub mod Generator
