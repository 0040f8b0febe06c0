-- In reading order.
pub mod Flights
pub mod Parting
pub mod Carrying
pub mod Looking
pub mod Progressing
pub mod Events
pub mod Crashes
pub mod Deliveries
pub mod Choosing
pub mod Ongoings
pub mod Agreement
