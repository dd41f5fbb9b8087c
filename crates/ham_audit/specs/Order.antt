-- The order of decision, built one call at a time, and the execution that records stand for.
use Rattle.std.specs.Prelude.{ℕ, zero, suc, ◌==◌, if◌then◌else◌, List, [], ◌∷◌, ◌++◌, length, Option, Some, None}
use Rattle.ham_syntax.specs.declared.act.Act.{Act}
use Rattle.ham_syntax.specs.declared.act.Place.{Place}
use Rattle.ham_laws.specs.Executions.{Execution}
use Rattle.ham_turns.specs.Settings.{Setting}
use Rattle.ham_turns.specs.Work.{first_of_two}
use Rattle.ham_records.specs.declared.records.Logged.{Logged}
use Rattle.ham_audit.specs.Records.{log_of, replicas, places, every_place, stands, front_of, act_at, deciding_log}

-- the first of the calls that is not yet taken
abbrev pub next_left : List Place → List Place → Option Place
next_left taken [] = None
next_left taken (c ∷ rest) = if stands c taken then next_left taken rest else Some c

-- a call, where the replica decides its lane
abbrev pub if_own : Setting → ℕ → Option Place → Option Place
if_own y r None = None
if_own y r (Some c) = if y.decider c.lane == r then Some c else None

-- the replica's next call, where it may go: what precedes that call in its log is taken already
abbrev pub next_of : Setting → List (List Logged) → List Place → ℕ → Option Place
next_of y records taken r = if_own y r (next_left taken (places (log_of records r)))

-- the next call of the first of these replicas that may go
abbrev pub next_among : Setting → List (List Logged) → List Place → List ℕ → Option Place
next_among y records taken [] = None
next_among y records taken (r ∷ rest) = first_of_two (next_of y records taken r) (next_among y records taken rest)

-- the next call of the least replica that may go
abbrev pub next_taken : Setting → List (List Logged) → List Place → Option Place
next_taken y records taken = next_among y records taken (replicas records)

abbrev pub with_next : List Place → Option Place → List Place
with_next taken None = taken
with_next taken (Some c) = taken ++ c ∷ []

-- one step; where no replica may go, it takes nothing
abbrev pub step : Setting → List (List Logged) → List Place → List Place
step y records taken = with_next taken (next_taken y records taken)

abbrev pub taken_after : Setting → List (List Logged) → ℕ → List Place
taken_after y records zero = []
taken_after y records (suc n) = step y records (taken_after y records n)

-- the decided calls, in the order of their decision: no more than are recorded
abbrev pub order : Setting → List (List Logged) → List Place
order y records = taken_after y records (length (every_place records))

-- the execution that records stand for
abbrev pub audited : Setting → List (List Logged) → Execution Place Act
audited y records = record {
  decided = order y records;
  act = λ c. act_at c (deciding_log y records c);
  lane = λ c. c.lane;
  decider = λ c. y.decider c.lane;
  before = λ c. front_of c (places (deciding_log y records c));
  log = λ r. places (log_of records r);
}
