-- What a command answers, as a relation on an object, what is asked of it, and the bytes of the file beside it.
--     Answers    the exit, and the text that comes with it
--     IsMet      what is asked is allowed, so that the exit is Done
use Rattle.std.specs.Prelude.{◌≡◌, ℕ, List, Option, Some, None}
use Rattle.ham_syntax.specs.Objects.{Schema}
use Rattle.ham_rules.specs.declared.claim.Claim.{Claim}
use Rattle.ham_plan.specs.Plans.{Plan}
use Rattle.ham_plain.specs.Written.{plain_of}
use Rattle.ham_tables.specs.TablesText.{tables_text}
use Rattle.ham_replay.specs.Replays.{Played}
use Rattle.ham_cli.specs.declared.exit.Exit.{Exit}
use Rattle.ham_cli.specs.declared.exit.Exit.TheVariants as exits
use Rattle.ham_cli.specs.Commands.{Asked, Normalizes, Replays, Records, Audits, Checks, Derives, Exemplifies, Tabulates, Bulks, Scripts}
use Rattle.ham_cli.specs.Told.{IsTold}
use Rattle.ham_cli.specs.Plans.{IsPlanFor}
use Rattle.ham_cli.specs.AuditAnswers.{IsFaultless, AnswersAudit}
use Rattle.ham_cli.specs.RecordAnswers.{AnswersRecord}
use Rattle.ham_cli.specs.CheckAnswers.{IsGoodText, AnswersCheck}
use Rattle.ham_cli.specs.ClaimAnswers.{claim_named, AnswersDerive, AnswersExample}
use Rattle.ham_cli.specs.PlayAnswers.{IsPlayed, IsWhole, AnswersReplay, AnswersBulk, AnswersScript}

abbrev pub AnswersTables : Schema → ℕ → Exit → List ℕ → Type 0
AnswersTables o replicas exit text = (p : Plan) × IsPlanFor o replicas p × IsTold exits.Done (tables_text o p) exit text

abbrev pub Answers : Schema → Asked → List ℕ → Exit → List ℕ → Type 0
Answers o Normalizes bytes exit text = IsTold exits.Done (plain_of o) exit text
Answers o (Replays schedule) bytes exit text = AnswersReplay o bytes exit text
Answers o (Records schedule) bytes exit text = AnswersRecord o bytes exit text
Answers o (Audits file) bytes exit text = AnswersAudit o bytes exit text
Answers o (Checks file) bytes exit text = AnswersCheck o bytes exit text
Answers o (Derives claim) bytes exit text = AnswersDerive o (claim_named o claim) exit text
Answers o (Exemplifies claim) bytes exit text = AnswersExample o (claim_named o claim) exit text
Answers o (Tabulates replicas) bytes exit text = AnswersTables o replicas exit text
Answers o (Bulks drawing) bytes exit text = AnswersBulk o drawing exit text
Answers o (Scripts drawing) bytes exit text = AnswersScript o drawing exit text

-- a schedule whose lines are all allowed, records without a fault, the text of a good derivation, methods of the claim's names, a script without
-- a refused line
abbrev pub IsMet : Schema → Asked → List ℕ → Type 0
IsMet o Normalizes bytes = Unit {0}
IsMet o (Replays schedule) bytes = (p : Played) × IsPlayed o bytes p × (p.refused ≡ None)
IsMet o (Records schedule) bytes = (p : Played) × IsPlayed o bytes p × (p.refused ≡ None)
IsMet o (Audits file) bytes = IsFaultless o bytes
IsMet o (Checks file) bytes = IsGoodText o bytes
IsMet o (Derives claim) bytes = (c : Claim) × (claim_named o claim ≡ Some c)
IsMet o (Exemplifies claim) bytes = (c : Claim) × (claim_named o claim ≡ Some c)
IsMet o (Tabulates replicas) bytes = Unit {0}
IsMet o (Bulks drawing) bytes = IsWhole o drawing
IsMet o (Scripts drawing) bytes = IsWhole o drawing

-- the exit with which what is asked may be refused
abbrev pub refusal_of : Asked → Option Exit
refusal_of Normalizes = None
refusal_of (Replays schedule) = Some exits.ScheduleRefused
refusal_of (Records schedule) = Some exits.ScheduleRefused
refusal_of (Audits file) = Some exits.AuditRefused
refusal_of (Checks file) = Some exits.DerivationRefused
refusal_of (Derives claim) = Some exits.DerivationRefused
refusal_of (Exemplifies claim) = Some exits.DerivationRefused
refusal_of (Tabulates replicas) = None
refusal_of (Bulks drawing) = Some exits.ScheduleRefused
refusal_of (Scripts drawing) = Some exits.ScheduleRefused
