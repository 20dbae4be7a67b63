-- What the proofs of several functions use, here and in the crates that link this one.
pub mod RegionLaws
pub mod SlotLaws
pub mod OwnLaws
pub mod BlockLaws
pub mod SizeLaws
pub mod HoldLaws
pub mod EmptyLaws
pub mod ReadLaws
pub mod ClearLaws
pub mod AfterLaws
