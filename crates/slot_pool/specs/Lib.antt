pub mod Layout
pub mod Lending
pub mod LendingSlots
pub mod Mapped
pub mod Pages
pub mod Paging
pub mod Stacking
pub mod Table
