-- In reading order.
pub mod Dispatch
pub mod Claims
pub mod PartCalls
pub mod Tally
