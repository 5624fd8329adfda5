pub mod Sequences
pub mod GivesUp
pub mod Sharp
