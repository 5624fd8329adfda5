pub mod First
pub mod Tests
pub mod Table
pub mod Answer
