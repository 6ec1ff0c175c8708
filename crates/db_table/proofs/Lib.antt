pub mod HoldsLaws
pub mod OrderLaws
pub mod PlacesLaws
pub mod RowLaws
pub mod TruthLaws
pub mod UsableLaws
