-- When a node is stopped.
use Rattle.std.specs.Prelude.{◌≡◌, ℕ, ◌↔◌, true, List}
use Rattle.ham_syntax.specs.Objects.{Schema}
use Rattle.ham_plan.specs.Lists.{In}
use Rattle.ham_plan.specs.Plans.{Plan}
use Rattle.ham_journal.specs.declared.entry.Entry.{Entry}
use Rattle.ham_journal.specs.declared.input.Input.TheVariants as inputs
use Rattle.ham_journal.specs.declared.entry.Mark.TheVariants as marks
use Rattle.ham_journal.specs.Cores.{Core}
use Rattle.ham_journal.specs.Histories.{HasCore}

-- a stop stands in the journal, and its work was done
abbrev pub HoldsStop : List Entry → Type 0
HoldsStop es = (e : Entry) × In e es × (e.input ≡ inputs.Stop) × (e.mark ≡ marks.Done)

-- a node is stopped exactly where a stop stands in its journal
abbrev pub StoppedByStop : Type 0
StoppedByStop = (o : Schema) (p : Plan) (me : ℕ) (k : Core) (es : List Entry) → HasCore o p me es k → (k.stopped ≡ true) ↔ HoldsStop es
