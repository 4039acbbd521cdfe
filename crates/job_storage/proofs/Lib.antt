pub mod Asked
pub mod BindLemmas
pub mod ElementActs
pub mod SysRequests
