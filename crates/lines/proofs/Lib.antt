-- What is proved of reading a line, apart from the functions' own proofs.
pub mod FieldLaws
pub mod ReadingLaws
