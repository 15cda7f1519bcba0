pub mod Edges
pub mod Isolation
pub mod Sums
pub mod Verdicts
