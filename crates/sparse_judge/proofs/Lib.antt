pub mod Pending
pub mod Sums
pub mod Verdicts
