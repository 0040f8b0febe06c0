pub mod Messages
pub mod Rules
pub mod Tests
pub mod Moves
pub mod Learning
pub mod Sends
pub mod Ranges
