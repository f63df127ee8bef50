-- What the contracts of this crate cite besides those of the crates below.
pub mod Layout
pub mod LayoutLaws
