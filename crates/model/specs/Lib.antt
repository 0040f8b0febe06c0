-- In reading order.
pub mod Platform
pub mod Lines
pub mod Range
pub mod Claims
