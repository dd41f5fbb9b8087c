-- The same of a world's parts.
use Rattle.std.specs.Prelude.{ℕ, List, Result, ◌≡◌, ◌+◌, ◌≤◌}
use Rattle.ham_turns.specs.declared.event.Event.{Event}
use Rattle.ham_turns.specs.Settings.{Rules, Setting, rules_of, setting_of}
use Rattle.ham_turns.specs.Words.{Intake, ReplicaWords}
use Rattle.ham_site.specs.Outs.{most_frames}
use Rattle.ham_runs.specs.Runs.{Note, words_of, on_link}
use Rattle.ham_runs.specs.Next.{Input}
use Rattle.ham_world.specs.declared.parts.Parts.{Parts}
use Rattle.ham_world.specs.declared.refusal.StepRefusal.{StepRefusal}
use Rattle.ham_world.specs.Keeping.{notes_of, Keeps, IsKept, Goes}
use Rattle.ham_world.specs.Stepping.{Comes, Halts, Leaves}

abbrev pub setting_at : Parts → Setting
setting_at w = setting_of w.plan

-- the run of the notes that the parts keep
abbrev pub run_at : Parts → List Note
run_at w = notes_of w.object w.plan w.notes.items

abbrev pub words_at : Parts → ℕ → ReplicaWords
words_at w r = words_of (rules_of w.object) (setting_at w) (run_at w) r

abbrev pub IsNoted : Parts → Type 0
IsNoted w = IsKept w.object w.plan w.notes.items

abbrev pub Agrees : Parts → Type 0
Agrees w = Keeps w.object w.plan w.replicas.items w.links.items w.decoders.items w.notes.items w.sent

-- object and plan stay
pub record IsSameWorld (old new : Parts) : Type 0 where
  pub object : new.object ≡ old.object
  pub plan : new.plan ≡ old.plan

abbrev pub GoesOn : Parts → Parts → ℕ → Intake → Type 0
GoesOn old new r took =
    Goes old.object old.plan new.replicas.items new.links.items new.decoders.items old.notes.items new.notes.items new.sent r took

-- so many frames more, at most, were sent
abbrev pub SendsFew : Parts → Parts → Type 0
SendsFew old new = new.sent ≤ old.sent + most_frames

abbrev pub Makes : Parts → Parts → List Input → Type 0
Makes old new inputs =
    Comes old.object old.plan new.replicas.items new.links.items new.decoders.items old.notes.items new.notes.items new.sent inputs

abbrev pub StopsIn : Parts → Parts → List Input → Type 0
StopsIn old new inputs = Halts old.object old.plan old.notes.items new.notes.items inputs

abbrev pub LeavesBy : Parts → Parts → Event → Result Unit StepRefusal → Type 0
LeavesBy old new e result =
    Leaves old.object old.plan new.replicas.items new.links.items new.decoders.items old.notes.items new.notes.items new.sent e result
