pub mod Pairs
pub mod Tests
pub mod Answers
pub mod Theorems
pub mod Texts
