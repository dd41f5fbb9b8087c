-- What a world's type keeps.
use Rattle.std.specs.Prelude.{◌≡◌, false, Bool, List}
use Rattle.ham_syntax.specs.Objects.{Schema}
use Rattle.ham_plan.specs.Plans.{Plan}
use Rattle.ham_world.specs.declared.note.Note.{Note as Told}
use Rattle.ham_world.specs.declared.parts.Parts.{Parts}
use Rattle.ham_world.specs.Worlds.{Run}
use Rattle.ham_world.specs.Keeping.{notes_of}
use Rattle.ham_world.specs.Parted.{IsNoted, Agrees}

-- the notes are those of a run of the object under its plan; where the world was not stopped, all its parts agree with them
pub record IsWorld (w : Parts) (stopped : Bool) : Type 0 where
  pub kept_is : IsNoted w
  pub going : stopped ≡ false → Agrees w

-- the run so far, by the notes that are kept
abbrev pub run_by : Schema → Plan → List Told → Bool → Run
run_by o p kept stopped = record { object = o; plan = p; notes = notes_of o p kept; stopped = stopped }
