pub mod ReadIsSaid
pub mod ReceiverLemmas
pub mod SaidIsRead
pub mod TableLaws
mod TableRows
