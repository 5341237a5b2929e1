pub mod Rendering
pub mod Lines
pub mod Judging
pub mod Histories
