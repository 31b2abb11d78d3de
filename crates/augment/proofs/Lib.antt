pub mod ClimbLaws
pub mod RingLaws
pub mod TrailLaws
pub mod MateLaws
