pub mod Calls
pub mod Images
pub mod Table
