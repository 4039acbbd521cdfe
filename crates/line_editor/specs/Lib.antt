pub mod Edits
pub mod Files
pub mod Judging
pub mod Marked
pub mod Marks
pub mod Numbers
pub mod Seen
pub mod Lines
