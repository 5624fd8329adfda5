pub mod Laying
pub mod Promises
