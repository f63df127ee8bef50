-- What is proved of a script's ring, apart from the functions' own proofs.
pub mod LentLaws
pub mod AnswerLaws
pub mod FirstLaws
