pub mod Laws
pub mod Masters
pub mod Terminals
