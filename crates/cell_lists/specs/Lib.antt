pub mod Chains
pub mod Memory
pub mod Walks
pub mod Lists
