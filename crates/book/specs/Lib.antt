pub mod Bids
pub mod Books
pub mod Laws
pub mod Once
pub mod Rankings
pub mod Rolls
