pub mod Whole
pub mod Scanning
