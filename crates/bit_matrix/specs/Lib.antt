pub mod Laws
pub mod Matrix
