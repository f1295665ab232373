pub mod ByName
pub mod Connections
pub mod Definitions
pub mod Empty
pub mod Lines
pub mod Nets
pub mod Pairs
pub mod Text
