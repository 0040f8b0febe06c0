-- In reading order.
pub mod Event
pub mod Search
pub mod Ready
pub mod Acting
