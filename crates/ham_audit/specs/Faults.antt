-- The faults of records, and which is the first.
use Rattle.std.specs.Prelude.{ℕ, ◌+◌, Bool, true, not, ◌&&◌, ◌||◌, ◌==◌, nat_lt, nat_le, if◌then◌else◌, List, [], ◌∷◌, ◌++◌, length, Option, Some, None, count_by}
use Rattle.ham_syntax.specs.declared.act.Act.{Act}
use Rattle.ham_syntax.specs.declared.act.Place.{Place}
use Rattle.ham_meaning.specs.declared.outcome.Outcome.{Outcome}
use Rattle.ham_meaning.specs.declared.outcome.Outcome.TheVariants as outcomes
use Rattle.ham_laws.specs.Executions.{Execution, end_of}
use Rattle.ham_turns.specs.Settings.{Rules, Setting, meaning_by}
use Rattle.ham_turns.specs.Words.{in_lane}
use Rattle.ham_turns.specs.Work.{first_of_two}
use Rattle.ham_turns.specs.Refusals.{same_act}
use Rattle.ham_records.specs.declared.records.Logged.{Logged}
use Rattle.ham_audit.specs.declared.fault.AuditFault.{AuditFault}
use Rattle.ham_audit.specs.declared.fault.AuditFault.TheVariants as faults
use Rattle.ham_audit.specs.Records.{log_of, replicas, places, stands, act_at, deciding_log}
use Rattle.ham_audit.specs.Order.{order, audited}

-- ---- at a position: the calls `before` precede e in the log of r

-- the lane is in the plan and the method's, and the number is one that a lane has
abbrev pub has_place : ℕ → Setting → Logged → Bool
has_place room y e =
    (nat_lt e.place.lane y.lanes && (y.lane e.act.method (y.decider e.place.lane) == e.place.lane)) &&
    (nat_lt 0 e.place.number && nat_le e.place.number room)

-- the call is decided elsewhere, or its number is the next of its lane, of which so many calls precede it
abbrev pub is_next : Setting → ℕ → ℕ → Logged → Bool
is_next y r count e = if y.decider e.place.lane == r then e.place.number == count + 1 else true

abbrev pub lane_count : List Logged → ℕ → ℕ
lane_count before lane = count_by (in_lane lane) (places before)

-- what is wrong with a call whose place may stand where it does
abbrev pub decided_fault : Setting → List (List Logged) → ℕ → ℕ → Bool → Logged → Option AuditFault
decided_fault y records r index next e =
    if not (stands e.place (places (deciding_log y records e.place))) then Some (faults.NotDecided r index)
    else if not (same_act e.act (act_at e.place (deciding_log y records e.place))) then Some (faults.Differs r index)
    else if not next then Some (faults.Gap r index)
    else None

abbrev pub fault_at : Rules → Setting → List (List Logged) → ℕ → List Logged → Logged → Option AuditFault
fault_at x y records r before e =
    if not (has_place x.lane_limit y e) then Some (faults.BadPlace r (length before + 1))
    else if stands e.place (places before) then Some (faults.Twice r (length before + 1))
    else decided_fault y records r (length before + 1) (is_next y r (lane_count before e.place.lane) e) e

-- the first among the positions of a log, of which `before` is past
abbrev pub fault_along : Rules → Setting → List (List Logged) → ℕ → List Logged → List Logged → Option AuditFault
fault_along x y records r before [] = None
fault_along x y records r before (e ∷ rest) =
    first_of_two (fault_at x y records r before e) (fault_along x y records r (before ++ e ∷ []) rest)

-- the first that a test of one replica finds
abbrev pub first_among : (ℕ → Option AuditFault) → List ℕ → Option AuditFault
first_among test [] = None
first_among test (r ∷ rest) = first_of_two (test r) (first_among test rest)

abbrev pub place_fault : Rules → Setting → List (List Logged) → Option AuditFault
place_fault x y records = first_among (λ r. fault_along x y records r [] (log_of records r)) (replicas records)

-- ---- the order stops

-- the first call of the log that r decided and that is not taken
abbrev pub left_along : Setting → List Place → ℕ → ℕ → List Logged → Option AuditFault
left_along y taken r index [] = None
left_along y taken r index (e ∷ rest) =
    if (y.decider e.place.lane == r) && not (stands e.place taken) then Some (faults.Cycle r index) else left_along y taken r (index + 1) rest

abbrev pub cycle_fault : Setting → List (List Logged) → Option AuditFault
cycle_fault y records = first_among (λ r. left_along y (order y records) r 1 (log_of records r)) (replicas records)

-- ---- a call is not permissible where it was decided

abbrev pub outcome_at : Rules → Setting → List (List Logged) → Place → Outcome
outcome_at x y records c =
    x.outcome (end_of (meaning_by x) (audited y records) ((audited y records).before c)) ((audited y records).act c)

abbrev pub forbidden_by : Setting → List (List Logged) → Place → Outcome → Option AuditFault
forbidden_by y records c outcomes.Yes = None
forbidden_by y records c (outcomes.Guard g) =
    Some (faults.Impermissible (y.decider c.lane) (length ((audited y records).before c) + 1) (outcomes.Guard g))
forbidden_by y records c (outcomes.Invariant v) =
    Some (faults.Impermissible (y.decider c.lane) (length ((audited y records).before c) + 1) (outcomes.Invariant v))

abbrev pub forbidden_among : Rules → Setting → List (List Logged) → List Place → Option AuditFault
forbidden_among x y records [] = None
forbidden_among x y records (c ∷ rest) =
    first_of_two (forbidden_by y records c (outcome_at x y records c)) (forbidden_among x y records rest)

abbrev pub outcome_fault : Rules → Setting → List (List Logged) → Option AuditFault
outcome_fault x y records = forbidden_among x y records (order y records)

-- ---- a need comes late

-- whether c needs n, if n precedes it where it was decided
abbrev pub is_need : Setting → Execution Place Act → Place → Place → Bool
is_need y e c n = (n.lane == c.lane) || (y.conflict (e.act n).method (e.act c).method || y.depends (e.act c).method (e.act n).method)

-- the first of the calls that c needs and that does not stand among those seen
abbrev pub late_need : Setting → Execution Place Act → Place → List Place → List Place → Option Place
late_need y e c seen [] = None
late_need y e c seen (n ∷ rest) = if is_need y e c n && not (stands n seen) then Some n else late_need y e c seen rest

abbrev pub late_by : ℕ → ℕ → Option Place → Option AuditFault
late_by r index None = None
late_by r index (Some need) = Some (faults.NeedLate r index need)

abbrev pub late_along : Setting → List (List Logged) → ℕ → List Place → List Place → Option AuditFault
late_along y records r before [] = None
late_along y records r before (c ∷ rest) =
    first_of_two (late_by r (length before + 1) (late_need y (audited y records) c before ((audited y records).before c)))
    (late_along y records r (before ++ c ∷ []) rest)

abbrev pub need_fault : Setting → List (List Logged) → Option AuditFault
need_fault y records = first_among (λ r. late_along y records r [] (places (log_of records r))) (replicas records)

-- ---- the first of all

-- the first past positions
abbrev pub later_fault : Rules → Setting → List (List Logged) → Option AuditFault
later_fault x y records = first_of_two (first_of_two (cycle_fault y records) (outcome_fault x y records)) (need_fault y records)

abbrev pub fault_of : Rules → Setting → List (List Logged) → Option AuditFault
fault_of x y records = first_of_two (place_fault x y records) (later_fault x y records)
