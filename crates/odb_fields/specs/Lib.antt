pub mod Bytes
pub mod Fields
pub mod Putting
pub mod Reading
