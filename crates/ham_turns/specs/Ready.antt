-- The drain, by numbers and counts.
--     IsReadyHere               a call that came may be logged
--     LogsReady, DrainsHere     ready calls are logged, the one of the least lane first; and so until none is ready
use Rattle.std.specs.Prelude.{◌≡◌, ℕ, ◌+◌, ◌≤◌, ◌<◌, List, [], ◌∷◌, Some, count_by, ⊤}
use Rattle.ham_syntax.specs.declared.act.Call.{Call}
use Rattle.ham_turns.specs.Settings.{Rules, Setting}
use Rattle.ham_turns.specs.Words.{ReplicaWords, place_of, in_lane}
use Rattle.ham_turns.specs.Work.{logged_one}

-- each count of the array is at most its slot's
abbrev pub IsWithin : ReplicaWords → List ℕ → List ℕ → Type 0
IsWithin w [] slots = ⊤
IsWithin w (n ∷ deps) [] = ⊤
IsWithin w (n ∷ deps) (s ∷ slots) = (n ≤ w.count_of s) × IsWithin w deps slots

-- the call came, it is the next of its lane, and of each slot of its array as many calls are logged as it says
pub record IsReadyHere (y : Setting) (w : ReplicaWords) (c : Call) : Type 0 where
  pub lane : c.lane < y.lanes
  pub kept : w.kept (place_of c) ≡ Some c
  pub next : c.number ≡ count_by (in_lane c.lane) w.log + 1
  pub counts : IsWithin w c.deps (y.needs c.act.method)

-- from the first words to the second these calls were logged, each the ready one of the least lane when it was
pub data LogsReady (x : Rules) (y : Setting) : ReplicaWords → List Call → ReplicaWords → Type 0 where
  Stop : {w : ReplicaWords} → LogsReady x y w [] w
  Log : {w after : ReplicaWords} {rest : List Call} (c : Call) → IsReadyHere y w c →
      ((d : Call) → IsReadyHere y w d → c.lane ≤ d.lane) → LogsReady x y (logged_one x y w c) rest after →
      LogsReady x y w (c ∷ rest) after

-- no call is ready
abbrev pub IsSettled : Setting → ReplicaWords → Type 0
IsSettled y w = (c : Call) → IsReadyHere y w c → ⊥

-- the drain: one ready call after another, until there is none
abbrev pub DrainsHere : Rules → Setting → ReplicaWords → List Call → ReplicaWords → Type 0
DrainsHere x y w calls after = LogsReady x y w calls after × IsSettled y after
