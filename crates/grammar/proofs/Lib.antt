pub mod Chains
pub mod Readers
pub mod Decimals
pub mod OneNumberMore
pub mod NumberLists
pub mod Requests
