pub mod Counting
mod Counters
mod Alike
mod Callers
pub mod Closing
mod Denied
mod Exclusion
pub mod FileLemmas
mod FileRows
mod FilesKept
pub mod GoodLaw
pub mod Histories
mod HiddenCase
mod Hiding
pub mod HoldLemmas
mod Holding
pub mod JobLemmas
mod JobsKept
mod Joined
mod ListingLaw
mod MaskLaw
pub mod Moves
mod Opened
pub mod Opening
pub mod OwnerLemmas
pub mod Outcomes
pub mod PageLemmas
mod PrinterCalls
mod PrinterKept
mod PrinterLemmas
mod PrinterRows
pub mod QueueLemmas
mod QuotaRows
mod ReceiversKept
pub mod RecordLemmas
mod RecordRows
mod Refusing
mod Rows
mod SpanHolds
pub mod Tools
mod Tracking
mod TwinDeeds
mod TwinRows
mod Twins
mod UpdateRows
mod Updating
pub mod WholeFiles
mod Writings
