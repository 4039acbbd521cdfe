mod Flags
mod Parses
mod Rows
mod Uses
mod Walks
