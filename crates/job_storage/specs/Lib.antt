pub mod Justifying
pub mod SysAnswers
