pub mod Rules
pub mod Tests
pub mod Theorems
pub mod Text
