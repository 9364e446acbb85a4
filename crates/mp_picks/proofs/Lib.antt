pub mod ShutPlaces
pub mod Choosing
