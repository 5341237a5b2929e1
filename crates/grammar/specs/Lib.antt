pub mod Options
pub mod Numbers
pub mod Spelling
pub mod Reading
pub mod Room
