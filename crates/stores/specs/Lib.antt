-- What the code asks and hands back, beside the model's stores.
pub mod Asked
pub mod Changes
pub mod TagPieces
