pub mod PrettyText
pub mod Laws
