pub mod Blocks
pub mod Same
pub mod Reading
pub mod Beside
pub mod Pairs
pub mod Theorems
