-- An issue's work on a replica's lists.
use Rattle.std.specs.Prelude.{◌≡◌, ◌≢◌, ◌⊎◌, ℕ, ◌<◌, Bool, List, [], ◌∷◌, ◌++◌, length, get_or, Some, None, Result, Ok, Err, IsTrue}
use Rattle.ham_lists.specs.declared.list.NoMemory.{NoMemory}
use Rattle.ham_syntax.specs.declared.act.Act.{Act}
use Rattle.ham_syntax.specs.declared.act.Place.{Place}
use Rattle.ham_syntax.specs.declared.act.Call.{Call}
use Rattle.ham_syntax.specs.declared.limits.TheConstants.{MAX_LANE_CALLS}
use Rattle.ham_frame.specs.Spelling.{FitsAct}
use Rattle.ham_turns.specs.declared.turn.What.{What}
use Rattle.ham_turns.specs.declared.turn.What.TheVariants as whats
use Rattle.ham_turns.specs.declared.turn.Issued.{Issued}
use Rattle.ham_turns.specs.declared.turn.IssueRefusal.{IssueRefusal}
use Rattle.ham_turns.specs.declared.turn.IssueRefusal.TheVariants as refusals
use Rattle.ham_turns.specs.declared.turn.Out.{Out}
use Rattle.ham_turns.specs.Words.{Intake, ActComes, place_of}
use Rattle.ham_turns.specs.Refusals.{issue_refusal}
use Rattle.ham_turns.specs.Turns.{IsTurnOf}
use Rattle.ham_site.specs.declared.out.Turn.{Turn}
use Rattle.ham_site.specs.Sites.{Site, rules_at, setting_at}
use Rattle.ham_replica.specs.Values.{Lists, words}
use Rattle.ham_replica.specs.Kept.{IsKept}
use Rattle.ham_replica.specs.Steps.{decide}

-- an act that the tests of an issue let pass, in a lane that is decided here
pub record MayDecide (site : Site) (v : Lists) (a : Act) (at : ℕ) : Type 0 where
  pub fits : IsTrue ((rules_at site).fits a)
  pub frame : FitsAct a
  pub method : a.method < (setting_at site).methods
  pub lane : at ≡ (setting_at site).lane a.method site.me
  pub here : (setting_at site).decider at ≡ site.me
  pub room : length (get_or v.decided at []) < MAX_LANE_CALLS

-- an act that the first tests let pass, in a group that is led elsewhere
pub record MayForward (site : Site) (a : Act) (group : ℕ) : Type 0 where
  pub fits : IsTrue ((rules_at site).fits a)
  pub frame : FitsAct a
  pub method : a.method < (setting_at site).methods
  pub lane : group ≡ (setting_at site).lane a.method site.me
  pub elsewhere : (setting_at site).decider group ≢ site.me

-- the call is decided, and its place told; without memory all stays
abbrev pub Decides : Site → Lists → Lists → List Place → List Place → Call → Result Unit NoMemory → Type 0
Decides site old new before after c (Ok _) = (new ≡ decide site old c) × (after ≡ before ++ place_of c ∷ [])
Decides site old new before after c (Err _) = (new ≡ old) × (after ≡ before)

-- a turn by the table, and what it leaves is kept
pub record Answers (site : Site) (old new : Lists) (took : Intake) (what : What) (places : List Place) (frames : List Out) (done : Bool) : Type 0 where
  pub kept : IsKept site new
  pub turn : IsTurnOf (rules_at site) (setting_at site) site.me (words old) (words new) took what places frames done

-- what an issue answers and leaves; without memory all stays
abbrev pub AnswersIssue : Site → Lists → Lists → Act → Result (Turn Issued) NoMemory → Type 0
AnswersIssue site old new a (Ok t) = Answers site old new (ActComes a) (whats.Issued t.answer) t.logged t.out t.settled
AnswersIssue site old new a (Err _) = new ≡ old

pub record IsIssued (site : Site) (old new : Lists) (a : Act) (t : Turn Issued) : Type 0 where
  pub accepted : issue_refusal (rules_at site) (setting_at site) (words old) site.me a ≡ None
  pub frame : FitsAct a
  pub answers : Answers site old new (ActComes a) (whats.Issued t.answer) t.logged t.out t.settled

-- a refusal leaves the lists, and is the table's or want of memory
abbrev pub IssuesIn : Site → Lists → Lists → Act → Result (Turn Issued) IssueRefusal → Type 0
IssuesIn site old new a (Ok t) = IsIssued site old new a t
IssuesIn site old new a (Err why) = (new ≡ old) × ((why ≡ refusals.NoMemory) ⊎ (issue_refusal (rules_at site) (setting_at site) (words old) site.me a ≡ Some why))
