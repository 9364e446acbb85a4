pub mod Counts
pub mod PlaceLaws
pub mod Rising
pub mod Selected
