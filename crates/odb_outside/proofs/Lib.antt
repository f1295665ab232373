pub mod Entering
pub mod FileLaws
pub mod Growing
pub mod Pieces
pub mod Placed
pub mod Schedules
pub mod Sinks
