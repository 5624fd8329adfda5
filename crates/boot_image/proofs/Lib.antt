pub mod Judging
pub mod Laying
