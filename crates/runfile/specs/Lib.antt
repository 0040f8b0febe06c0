pub mod Text
pub mod File
pub mod Reader
