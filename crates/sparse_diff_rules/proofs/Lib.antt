pub mod Laying
pub mod Changes
pub mod Lists
pub mod Answering
pub mod Theorems
