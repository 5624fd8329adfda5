pub mod Fitting
pub mod Sums
pub mod One
pub mod Adding
pub mod Totals
pub mod Ways
pub mod Texts
pub mod Folders
