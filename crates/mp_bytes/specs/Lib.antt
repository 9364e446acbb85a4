pub mod Bytes
pub mod Digits
pub mod Fields
pub mod FieldLaws
pub mod Values
pub mod Lines
pub mod Laws
