pub mod Gap
pub mod Columns
pub mod Store
pub mod Inside
pub mod Filling
