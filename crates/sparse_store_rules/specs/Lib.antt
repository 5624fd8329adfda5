pub mod Store
pub mod Answers
pub mod Runs
pub mod Blocks
pub mod Storing
pub mod Orders
