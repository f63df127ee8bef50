-- What the contracts of this crate cite: a line's text, its first word, and reading it byte by byte.
pub mod Line
pub mod Word
pub mod Reading
