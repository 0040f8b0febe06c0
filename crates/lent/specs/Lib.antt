pub mod Rests
pub mod Planned
