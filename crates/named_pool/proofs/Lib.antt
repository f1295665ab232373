pub mod Finding
pub mod HeldUpTo
pub mod Holding
pub mod Moving
