-- In reading order.
pub mod Demand1
pub mod Demand3
pub mod Demand2
pub mod OneEvent
pub mod Nodes
pub mod Worked
pub mod Theorems
