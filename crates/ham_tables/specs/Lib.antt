pub mod DerivedPlans
pub mod TablesText
pub use Rattle.ham_plan.specs.Plans
pub use Rattle.ham_plan.specs.Grids
pub use Rattle.ham_laws.specs.Constrained
pub use Rattle.ham_laws.specs.Executions
pub use Rattle.ham_rules.specs.Derivations
