pub mod Line
pub mod Starter
pub mod Theorems
