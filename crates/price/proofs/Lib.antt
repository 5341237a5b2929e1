pub mod PairSums
pub mod Orders
