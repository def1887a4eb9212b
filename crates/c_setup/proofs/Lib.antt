-- The theorem, whose lemmas the calls with a key cite too.
pub mod Refusals
