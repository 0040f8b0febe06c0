pub mod Places
pub mod RowTests
pub mod StateTests
pub mod Whole
