pub mod DiskLemmas
pub mod KeptLemmas
pub mod KeyLemmas
pub mod LayLemmas
pub mod NthLemmas
pub mod OwnerLemmas
pub mod ReadLemmas
pub mod RowLemmas
mod SlotLemmas
