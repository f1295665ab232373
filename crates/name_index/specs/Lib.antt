pub mod Chain
pub mod Gathered
pub mod Hash
pub mod Index
pub mod Names
pub mod Rechained
pub mod VecCells
