pub mod Near
pub mod NearLaws
pub mod Listed
pub mod Lending
pub mod Ratio
pub mod RatioLaws
pub mod Whole
