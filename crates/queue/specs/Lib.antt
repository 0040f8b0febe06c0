-- In reading order.
pub mod Order
pub mod Rows
pub mod Digits
pub mod Holds
