pub mod Machine
pub mod InPlace
pub mod Laws
