mod HandedOut
mod LastEvent
mod StandsAlone
mod Meaning
mod Stepping
mod EveryCall
pub mod RulesKept
pub mod Plays
mod Refutes
