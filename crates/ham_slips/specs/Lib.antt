pub mod Slips
pub use Rattle.ham_rules.specs.Rules
pub use Rattle.ham_rules.specs.Terms
pub use Rattle.ham_rules.specs.Claims
pub use Rattle.ham_meaning.specs.Relations
pub use Rattle.ham_meaning.specs.OfObjects
pub use Rattle.ham_syntax.specs.Checked
