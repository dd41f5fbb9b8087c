-- What `record OBJECT SCHEDULE` answers: the logs of the one run, under the plans that the rules derive from the object.
--     IsRecordedWell    the auditor finds no fault in them
use Rattle.std.specs.Prelude.{ℕ, List}
use Rattle.ham_syntax.specs.Objects.{Schema}
use Rattle.ham_replay.specs.Claims.{settings_of}
use Rattle.ham_replay.specs.Replays.{Played}
use Rattle.ham_record.specs.Recorded.{recorded}
use Rattle.ham_cli.specs.declared.exit.Exit.{Exit}
use Rattle.ham_cli.specs.AuditAnswers.{IsFaultless}
use Rattle.ham_cli.specs.PlayAnswers.{exit_of_refused, IsPlayed}
use Rattle.ham_cli.specs.Told.{IsTold}

-- the text of what is played: of its logs, or of its refused line
abbrev pub text_of : (o : Schema) (schedule : List ℕ) (p : Played) → IsPlayed o schedule p → List ℕ
text_of o schedule p is = recorded o (settings_of is.plans) p

abbrev pub AnswersRecord : Schema → List ℕ → Exit → List ℕ → Type 0
AnswersRecord o schedule exit text = (p : Played) × (is : IsPlayed o schedule p) × IsTold (exit_of_refused p.refused) (text_of o schedule p is) exit text

-- the auditor accepts what is written of the schedule
abbrev pub IsRecordedWell : Schema → List ℕ → Type 0
IsRecordedWell o schedule = (p : Played) × (is : IsPlayed o schedule p) × IsFaultless o (text_of o schedule p is)
