pub mod First
pub mod Every
pub mod Answer
