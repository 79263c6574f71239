pub mod Filters
pub mod Searches
pub mod Means
pub mod Keeps
pub mod Passes
