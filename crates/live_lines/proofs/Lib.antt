pub mod OwnLines
