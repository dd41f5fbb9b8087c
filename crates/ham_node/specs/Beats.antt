-- What a ticker enters.
use Rattle.std.specs.Prelude.{ℕ, List, Option}
use Rattle.ham_syntax.specs.Objects.{Schema}
use Rattle.ham_plan.specs.Plans.{Plan}
use Rattle.ham_journal.specs.declared.entry.Entry.{Entry}
use Rattle.ham_journal.specs.declared.input.Input.TheVariants as inputs
use Rattle.ham_journal.specs.declared.input.Reply.{Reply}
use Rattle.ham_core.specs.Doors.{EntersBy}

-- ticks alone, one after another
pub data Beats (o : Schema) (p : Plan) (m : ℕ) (h : Option (List Entry)) : Option (List Entry) → Type 0 where
  Still : Beats o p m h h
  Again : (h1 h2 : Option (List Entry)) (r : Reply) → Beats o p m h h1 → EntersBy o p m h1 h2 inputs.Tick r → Beats o p m h h2
