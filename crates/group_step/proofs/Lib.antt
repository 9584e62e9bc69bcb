pub mod GroupPlaces
pub mod GroupSteps
pub mod GroupAsks
