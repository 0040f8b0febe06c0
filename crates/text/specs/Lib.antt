pub mod Number
pub mod Hex
pub mod Field
pub mod Put
