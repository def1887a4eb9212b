-- What the code hands back, beside the model's results.
pub mod Results
pub mod Recovery
