pub mod Back
pub mod Can
pub mod Do
pub mod Laws
pub mod Room
pub mod Terms
