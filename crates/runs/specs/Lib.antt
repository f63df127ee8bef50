-- What the contract of this crate cites, and what is proved of it: a run, and that it ends.
pub mod Run
pub mod RunLaws
pub mod RunEnds
