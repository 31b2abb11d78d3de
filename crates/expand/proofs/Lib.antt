-- Laws of an expansion.
pub mod FreeLaws
pub mod WalkLaws
pub mod RelabelLaws
