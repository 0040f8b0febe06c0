pub mod Answers
pub mod Bytes
pub mod Fields
pub mod Zeros
