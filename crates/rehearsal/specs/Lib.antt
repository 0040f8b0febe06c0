-- In reading order.
pub mod Log
pub mod Part
