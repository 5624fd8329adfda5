pub mod Stretches
pub mod Passing
pub mod Giving
pub mod Comparing
pub mod SideBySide
pub mod Own
pub mod Pairing
pub mod Turns
