pub mod OnBytes
pub mod Promises
pub mod Sequences
