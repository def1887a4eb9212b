-- What the test of many tags gives.
pub mod Results
