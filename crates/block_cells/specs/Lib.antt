pub mod Cells
pub mod FreeIds
pub mod Lists
pub mod Names
pub mod Rooms
pub mod Setting
pub mod Walking
