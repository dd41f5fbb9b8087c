pub mod Cases
pub mod ExampleText
pub mod MadeUp
pub mod Shown
pub use Rattle.ham_rules.specs.Claims
