pub mod Calls
pub mod Answers
pub mod Performing
pub mod History
pub mod Known
pub mod Rules
pub mod Reaching
pub mod Refuting
