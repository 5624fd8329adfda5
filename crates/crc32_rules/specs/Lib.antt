pub mod Crc
pub mod Power
pub mod Table
