-- In reading order.
pub mod Apart
pub mod Carry
pub mod Look
pub mod Progress
pub mod Act
pub mod Choose
