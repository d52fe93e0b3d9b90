pub mod SameMaps
pub mod Applying
pub mod Seeking
pub mod Paging
pub mod Following
