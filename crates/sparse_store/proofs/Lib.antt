pub mod Turn
pub mod Entries
