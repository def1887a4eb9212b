-- What format stores behind the journal, as the code stores it.
pub mod Runs
