pub mod Record
pub mod Call
