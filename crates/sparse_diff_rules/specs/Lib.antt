pub mod Diff
pub mod Laid
pub mod Theorems
