pub mod Lengths
pub mod Listings
pub mod Room
