pub mod Table
pub mod Pages
pub mod Sections
pub mod Positions
pub mod Tests
pub mod Offered
pub mod Sound
