pub mod Links
pub mod Cuts
pub mod Streams
pub use Rattle.ham_frame.specs.Spelling
pub use Rattle.ham_frame.specs.Decoding
