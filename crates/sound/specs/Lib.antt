-- What the tag rules of the code mean.
pub mod Rule
