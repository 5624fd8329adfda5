pub mod Bound
pub mod Fourth
pub mod GivesUp
pub mod Sharp
