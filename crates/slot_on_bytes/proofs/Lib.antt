pub mod OnBytes
pub mod Promises
pub mod Refused
pub mod Sequences
