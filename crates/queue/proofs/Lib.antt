-- In reading order.
pub mod Orders
pub mod Splits
pub mod Shares
pub mod Dealing
pub mod Radix
pub mod First
pub mod Queues
