pub mod CallFronts
pub mod Laws
pub mod Table
