pub mod Plan
pub mod Plain
