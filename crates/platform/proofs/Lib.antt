-- In reading order.
pub mod Encoded
pub mod Stores
pub mod Opening
pub mod Writing
pub mod Stepping
pub mod Running
pub mod Queued
pub mod Answers
pub mod CallLists
