-- In reading order.
pub mod Tries
pub mod Whole
pub mod Logging
pub mod Course
pub mod First
pub mod Parts
