pub mod Counting
pub mod Graphs
pub mod Refusals
