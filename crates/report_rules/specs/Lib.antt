pub mod Images
pub mod Reports
pub mod Theorems
pub mod Text
pub mod Folder
