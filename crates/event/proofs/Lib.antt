pub mod Readiness
pub mod Searching
pub mod Parts
pub mod Turning
pub mod Doing
pub mod LineRoom
