-- What is proved of the calls' outcomes, apart from the functions' own proofs.
pub mod OneOutcome
