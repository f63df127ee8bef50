-- What the contracts of this crate cite, and what is proved of it: a line written out, doing it, what it prints, and the whole program.
pub mod Written
pub mod WrittenLaws
pub mod Text
pub mod TextLaws
pub mod BufferLaws
pub mod Program
pub mod ProgramLaws
pub mod Output
pub mod OutputLaws
