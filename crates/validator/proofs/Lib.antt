pub mod Faults
pub mod Moves
pub mod Rows
pub mod Verdicts
