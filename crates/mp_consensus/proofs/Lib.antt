pub mod Steps
pub mod Radii
pub mod LeastCentres
pub mod Bounding
pub mod Searching
pub mod Scanning
pub mod Reaching
pub mod Pieces
