-- What the contracts of this crate cite, and what is proved of it: doing a line.
pub mod Play
pub mod PlayLaws
