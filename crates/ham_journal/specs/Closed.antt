-- Logs that are closed by their frames: each call stands after the lower numbers of its lane and after what its array names,
-- and was decided here or came in a frame.
use Rattle.std.specs.Prelude.{◌≡◌, ℕ, ◌+◌, ◌≤◌, ◌⊎◌, ◌==◌, Bool, List, [], ◌∷◌, ◌++◌, map, count_by, Some, ⊤}
use Rattle.ham_syntax.specs.Objects.{Schema}
use Rattle.ham_syntax.specs.declared.act.Call.{Call}
use Rattle.ham_plan.specs.Plans.{Plan}
use Rattle.ham_turns.specs.Settings.{Setting, setting_of}
use Rattle.ham_turns.specs.Words.{ReplicaWords, place_of, numbered}
use Rattle.ham_journal.specs.declared.entry.Entry.{Entry}
use Rattle.ham_journal.specs.Cores.{Core, recorded}
use Rattle.ham_journal.specs.Replies.{AllMayEnter}
use Rattle.ham_journal.specs.Histories.{HasCore}

-- the calls of a lane, and those of a slot
abbrev pub of_lane : ℕ → Call → Bool
of_lane lane c = c.lane == lane

abbrev pub of_slot : Setting → ℕ → Call → Bool
of_slot y s c = y.slot c.act.method (y.decider c.lane) == s

-- after as many calls of each slot as the array says
abbrev pub Reached : Setting → List Call → List ℕ → List ℕ → Type 0
Reached y calls [] slots = ⊤
Reached y calls (n ∷ deps) [] = ⊤
Reached y calls (n ∷ deps) (s ∷ slots) = (n ≤ count_by (of_slot y s) calls) × Reached y calls deps slots

-- each call stands after the lower numbers of its lane and after what its array names
pub data InOrder (y : Setting) : List Call → Type 0 where
  Nothing : InOrder y []
  Then : (calls : List Call) (c : Call) → InOrder y calls → c.number ≡ count_by (of_lane c.lane) calls + 1
      → Reached y calls c.deps (y.needs c.act.method) → InOrder y (calls ++ c ∷ [])

-- a call that was decided here, or that a frame brought
abbrev pub IsHad : ReplicaWords → Call → Type 0
IsHad w c = (numbered (w.decided c.lane) c.number ≡ Some c) ⊎ (w.kept (place_of c) ≡ Some c)

abbrev pub AllHad : ReplicaWords → List Call → Type 0
AllHad w [] = ⊤
AllHad w (c ∷ calls) = IsHad w c × AllHad w calls

-- the log is that of calls which are had and stand in order
pub record IsClosed (y : Setting) (w : ReplicaWords) : Type 0 where
  pub calls : List Call
  pub log : w.log ≡ map place_of calls
  pub order : InOrder y calls
  pub had : AllHad w calls

-- a decided call stands where it says
abbrev pub IsPlaced : ReplicaWords → Type 0
IsPlaced w = (l n : ℕ) (c : Call) → numbered (w.decided l) n ≡ Some c → (c.lane ≡ l) × (c.number ≡ n)

-- Each delivery of a journal is another replica's: then its log is closed by its frames.
abbrev pub HistoriesClosed : Type 0
HistoriesClosed = (o : Schema) (p : Plan) (me : ℕ) (k : Core) (es : List Entry) → AllMayEnter (setting_of p) me es → HasCore o p me es k
    → IsClosed (setting_of p) k.words

-- And the calls that it is closed by are those that are recorded.
abbrev pub HistoriesRecorded : Type 0
HistoriesRecorded = (o : Schema) (p : Plan) (me : ℕ) (k : Core) (es : List Entry) → AllMayEnter (setting_of p) me es → HasCore o p me es k
    → (closed : IsClosed (setting_of p) k.words) × (recorded k.words ≡ closed.calls)
