pub mod Laws
pub mod MatrixActs
pub mod MatrixShapes
pub mod MatrixSources
pub mod MatrixValues
