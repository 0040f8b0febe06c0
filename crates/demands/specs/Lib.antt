-- In reading order.
pub mod Nodes
pub mod Demands
