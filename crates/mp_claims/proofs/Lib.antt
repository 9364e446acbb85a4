pub mod Soundness
pub mod Deliveries
pub mod Boarding
pub mod Totals
pub mod Partials
pub mod Runs
