-- What `replay OBJECT SCHEDULE`, `bulk OBJECT SEED N ROUNDS` and `script OBJECT SEED N ROUNDS` answer, under the plans
-- that the rules derive from the object.
--     IsPlayed, Plays    what is played of a schedule; the plans are sound, and the run is faithful
--     IsPlayedOnce       an object and a schedule fix what is played
--     IsReplayed         a script, replayed, makes the run that `bulk` counts
use Rattle.std.specs.Prelude.{◌≡◌, ℕ, List, Option, Some, None}
use Rattle.ham_syntax.specs.Objects.{Schema}
use Rattle.ham_plan.specs.Plans.{Plan}
use Rattle.ham_laws.specs.Constrained.{IsPlanned}
use Rattle.ham_turns.specs.Settings.{setting_of}
use Rattle.ham_replay.specs.declared.end.Refusal.{Refusal}
use Rattle.ham_replay.specs.Claims.{ArePlans, settings_of, IsPlayedFaithfully}
use Rattle.ham_replay.specs.Replays.{Played, played}
use Rattle.ham_bulk.specs.Scripts.{generated}
use Rattle.ham_bulk.specs.Scripted.{scripted, bulked, IsPlayedTo}
use Rattle.ham_cli.specs.declared.command.Drawing.{Drawing}
use Rattle.ham_cli.specs.declared.exit.Exit.{Exit}
use Rattle.ham_cli.specs.declared.exit.Exit.TheVariants as exits
use Rattle.ham_cli.specs.Plans.{IsPlanFor, AreDerived}
use Rattle.ham_cli.specs.Told.{IsTold}

-- what is played ends at its end, or at a refused line, which its text tells last
abbrev pub exit_of_refused : Option Refusal → Exit
exit_of_refused None = exits.Done
exit_of_refused (Some why) = exits.ScheduleRefused

abbrev pub AnswersPlayed : Played → Exit → List ℕ → Type 0
AnswersPlayed p exit text = IsTold (exit_of_refused p.refused) p.text exit text

-- ---- replay

-- this is what is played of the schedule
pub record IsPlayed (o : Schema) (schedule : List ℕ) (p : Played) : Type 0 where
  pub plans : List Plan
  pub derived : AreDerived o plans
  pub comes : p ≡ played o (settings_of plans) schedule

-- the same, and the plans are sound, and the run of the world that was made is faithful
pub record Plays (o : Schema) (schedule : List ℕ) (p : Played) : Type 0 where
  pub is : IsPlayed o schedule p
  pub sound : ArePlans o is.plans
  pub faithful : IsPlayedFaithfully o (settings_of is.plans) p

-- whichever derived plans are taken
abbrev pub IsPlayedOnce : Type 0
IsPlayedOnce = (o : Schema) (schedule : List ℕ) (p q : Played) → IsPlayed o schedule p → IsPlayed o schedule q → p ≡ q

abbrev pub AnswersReplay : Schema → List ℕ → Exit → List ℕ → Type 0
AnswersReplay o schedule exit text = (p : Played) × Plays o schedule p × AnswersPlayed p exit text

-- ---- bulk and script

-- the plan is the derived one for the drawing's replicas, and it is sound
pub record DerivesPlan (o : Schema) (d : Drawing) (p : Plan) : Type 0 where
  pub plan : IsPlanFor o d.replicas p
  pub sound : IsPlanned o p

abbrev pub AnswersBulk : Schema → Drawing → Exit → List ℕ → Type 0
AnswersBulk o d exit text = (p : Plan) × DerivesPlan o d p × AnswersPlayed (bulked o (setting_of p) d.seed d.rounds) exit text

-- replayed under derived plans, the script is played to its end, and makes the run that `bulk` counts
abbrev pub IsReplayed : Schema → Drawing → Type 0
IsReplayed o d = (p : Plan) × IsPlanFor o d.replicas p × ((plans : List Plan) → AreDerived o plans →
    IsPlayedTo (played o (settings_of plans) (scripted o (setting_of p) d.seed d.rounds).text) d.replicas (bulked o (setting_of p) d.seed d.rounds).notes)

abbrev pub AnswersScript : Schema → Drawing → Exit → List ℕ → Type 0
AnswersScript o d exit text = (p : Plan) × DerivesPlan o d p × AnswersPlayed (scripted o (setting_of p) d.seed d.rounds) exit text

-- no line of the script is refused
abbrev pub IsWhole : Schema → Drawing → Type 0
IsWhole o d = (p : Plan) × IsPlanFor o d.replicas p × ((generated o (setting_of p) d.seed d.rounds).refused ≡ None)
