pub mod Faults
pub mod Resolved
pub use Rattle.ham_syntax.specs.Objects
pub use Rattle.ham_syntax.specs.Checked
