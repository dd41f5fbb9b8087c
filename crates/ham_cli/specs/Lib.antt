pub mod Commands
pub mod Reading
pub mod Exits
pub mod Told
pub mod Files
pub mod Plans
pub mod CheckAnswers
pub mod ClaimAnswers
pub mod PlayAnswers
pub mod AuditAnswers
pub mod RecordAnswers
pub mod Answers
pub mod Sought
pub mod Top
pub use Rattle.ham_syntax.specs.Objects
pub use Rattle.ham_bytes.specs.Outside
pub use Rattle.ham_bytes.specs.Causes
pub use Rattle.ham_objfile.specs.Texts
pub use Rattle.ham_plain.specs.Written
pub use Rattle.ham_forms.specs.FaultTexts
pub use Rattle.ham_rules.specs.Derivations
pub use Rattle.ham_derive.specs.Texts as DerivationTexts
pub use Rattle.ham_analyse.specs.Analysis
pub use Rattle.ham_witness.specs.Shown
pub use Rattle.ham_witness.specs.ExampleText
pub use Rattle.ham_tables.specs.DerivedPlans
pub use Rattle.ham_tables.specs.TablesText
pub use Rattle.ham_runs.specs.Headline
pub use Rattle.ham_replay.specs.Replays
pub use Rattle.ham_replay.specs.Claims
pub use Rattle.ham_bulk.specs.Scripts
pub use Rattle.ham_bulk.specs.ScriptTexts
pub use Rattle.ham_bulk.specs.Summaries
pub use Rattle.ham_bulk.specs.Scripted
pub use Rattle.ham_records.specs.Texts as RecordTexts
pub use Rattle.ham_audit.specs.Faults
pub use Rattle.ham_audit.specs.Claims as AuditClaims
pub use Rattle.ham_record.specs.Recorded
