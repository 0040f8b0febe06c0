pub mod PutLaws
pub mod NumberLaws
pub mod HexLaws
pub mod NumberTrip
pub mod HexTrip
pub mod FieldTrip
