pub mod Asked
pub mod Following
pub mod Judged
pub mod Owed
pub mod Rooms
pub mod Soundness
