pub mod Known
pub mod Calls
pub mod State
pub mod Steps
pub mod Laid
pub mod States
pub mod Passes
pub mod Theorems
