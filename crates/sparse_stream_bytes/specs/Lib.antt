pub mod Layout
pub mod Promises
