pub mod Texts
pub mod Lines
pub mod Answers
pub mod Booting
pub mod Starting
pub mod Theorems
