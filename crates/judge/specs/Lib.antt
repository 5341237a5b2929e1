pub mod Refusals
pub mod Stages
pub mod Counts
pub mod Cases
pub mod Reports
pub mod Drafting
pub mod Claiming
pub mod Handing
