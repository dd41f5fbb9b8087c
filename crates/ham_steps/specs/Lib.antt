pub mod Nothing
pub mod Pattern
pub mod Content
pub mod Steps
pub mod Touch
pub use Rattle.ham_lists.specs.InPlace
pub use Rattle.ham_syntax.specs.Objects
pub use Rattle.ham_syntax.specs.Checked
