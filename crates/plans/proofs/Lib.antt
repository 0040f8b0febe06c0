pub mod Bools
pub mod Rows
pub mod Orders
pub mod Listed
pub mod Tests
pub mod Few
pub mod Facts
