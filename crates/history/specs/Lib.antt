pub mod Lists
pub mod Log
pub mod History
pub mod Premise
pub mod Promise
