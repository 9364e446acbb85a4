pub mod Retold
pub mod Described
pub mod Examples
pub mod Laws
