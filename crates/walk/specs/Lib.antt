pub mod Walks
pub mod Rule
pub mod Fewest
pub mod Theorem
pub mod Tables
pub mod WalkAt
