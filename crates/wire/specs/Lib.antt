pub mod Bytes
pub mod Fields
pub mod Messages
pub mod Packets
pub mod Blocks
pub mod Written
