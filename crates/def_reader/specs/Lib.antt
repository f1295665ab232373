pub mod Answer
pub mod Closing
pub mod Headers
pub mod Inside
pub mod Opening
pub mod Reading
