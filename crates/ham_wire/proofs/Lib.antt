pub mod Results
pub mod Spans
pub mod Cuts
pub mod Decoded
