pub mod Growing
pub mod MasterTests
pub mod PartTests
pub mod ShapeTests
pub mod TestLemmas
