-- The drain of a replica as a function: its calls, one after another.
--     least_ready, is_settled     the ready call of the least lane, and whether there is none
--     drained                     the words after so many calls
use Rattle.std.specs.Prelude.{ℕ, zero, suc, ◌+◌, Bool, true, not, ◌&&◌, nat_le, if◌then◌else◌, List, [], ◌∷◌, Option, Some, None, is_some, option_and_then, count_by}
use Rattle.ham_syntax.specs.declared.act.Place.{Place}
use Rattle.ham_syntax.specs.declared.act.Call.{Call}
use Rattle.ham_turns.specs.Settings.{Rules, Setting}
use Rattle.ham_turns.specs.Words.{ReplicaWords, place_of, same_place, in_lane}
use Rattle.ham_turns.specs.Work.{logged_one, first_of_two}

-- each count of the array is at most its slot's
abbrev pub within_test : ReplicaWords → List ℕ → List ℕ → Bool
within_test w [] slots = true
within_test w (n ∷ deps) [] = true
within_test w (n ∷ deps) (s ∷ slots) = nat_le n (w.count_of s) && within_test w deps slots

-- the call that came for a place, where it may be logged
abbrev pub ready_at : Setting → ReplicaWords → Place → Option Call → Option Call
ready_at y w p None = None
ready_at y w p (Some c) = if same_place (place_of c) p && within_test w c.deps (y.needs c.act.method) then Some c else None

-- where the next call of a lane stands
abbrev pub next_in : ReplicaWords → ℕ → Place
next_in w lane = record { lane = lane; number = count_by (in_lane lane) w.log + 1 }

-- the ready call of the least lane below n
abbrev pub least_ready : Setting → ReplicaWords → ℕ → Option Call
least_ready y w zero = None
least_ready y w (suc n) = first_of_two (least_ready y w n) (ready_at y w (next_in w n) (w.kept (next_in w n)))

-- no call is ready
abbrev pub is_settled : Setting → ReplicaWords → Bool
is_settled y w = not (is_some (least_ready y w y.lanes))

-- the first n calls of the drain are logged, where there are as many
abbrev pub drained : Rules → Setting → ℕ → ReplicaWords → Option ReplicaWords
drained x y zero w = Some w
drained x y (suc n) w = option_and_then (λ c. drained x y n (logged_one x y w c)) (least_ready y w y.lanes)
