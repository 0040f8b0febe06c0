-- In reading order.
pub mod Calls
pub mod CallLists
pub mod Accepts
