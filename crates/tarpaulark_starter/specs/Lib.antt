pub mod OnBytes
pub mod Promises
