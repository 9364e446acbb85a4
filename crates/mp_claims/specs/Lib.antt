pub mod Cores
pub mod Boards
pub mod Standing
pub mod Sizes
pub mod Laws
pub mod Marks
