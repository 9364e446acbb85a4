pub mod HeldCounts
pub mod MissingCounts
