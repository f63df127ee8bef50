-- What the contracts of this crate cite, in the order of document 01. Definitions stand in the file of their name; what is proved of
-- them, in the file of that name with Laws behind it.
pub mod DivideLaws
pub mod Tests
pub mod Wrap
pub mod WrapLaws
pub mod Position
pub mod PositionLaws
pub mod Commit
pub mod CommitLaws
pub mod CountLaws
pub mod Shape
pub mod ShapeLaws
pub mod Place
pub mod PlaceLaws
pub mod Table
