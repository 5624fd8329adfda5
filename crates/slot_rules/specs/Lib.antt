pub mod OneSlot
pub mod Records
pub mod Answers
pub mod Operations
pub mod Applied
pub mod Promises
