pub mod Join
pub mod Image
pub mod Ahead
pub mod Grows
pub mod Theorems
