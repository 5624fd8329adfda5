pub mod Blocks
pub mod Kinds
pub mod KindOf
pub mod Runs
pub mod Encode
pub mod Parts
pub mod Write
pub mod Theorems
