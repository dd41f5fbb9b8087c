-- Needs by numbers: what the auditor keeps of the calls before a decided call, and of a log's front.
--     slot_at                     where a logged call is counted
--     Covers                      places up to which the needs of a call reach
--     HasFirst                    lanes whose first calls all stand
use Rattle.std.specs.Prelude.{◌≡◌, ◌⊎◌, ℕ, ◌-◌, ◌+◌, ◌<◌, ◌≤◌, Bool, true, ◌==◌, ◌||◌, if◌then◌else◌, List, [], ◌∷◌, map, take, length, get_or, slice_get, slice_set, slice_index, Option, Some, None}
use Rattle.ham_syntax.specs.declared.act.Place.{Place}
use Rattle.ham_plan.specs.Lists.{In}
use Rattle.ham_plan.specs.Plans.{Plan, conflicts, depends_on}
use Rattle.ham_turns.specs.Settings.{Setting, IsReplica}
use Rattle.ham_site.specs.Sites.{Site, rules_at, setting_at}
use Rattle.ham_runs.specs.Facts.{IsSetting}
use Rattle.ham_audit.specs.declared.fronts.Front.{Front}
use Rattle.ham_audit.specs.declared.fault.AuditFault.{AuditFault}
use Rattle.ham_audit.specs.Faults.{late_need, late_by}
use Rattle.ham_audit.specs.Order.{audited}
use Rattle.ham_records.specs.declared.records.Logged.{Logged}
use Rattle.ham_audit.specs.Records.{log_of, places, stands}

abbrev pub slot_at : Setting → Logged → ℕ
slot_at y e = y.slot e.act.method (y.decider e.place.lane)

-- one of the places is in the call's lane and not below the call
pub record Reaches (places : List Place) (n : Place) : Type 0 where
  pub place : Place
  pub one : In place places
  pub lane : place.lane ≡ n.lane
  pub far : n.number ≤ place.number

abbrev pub no_place : Place
no_place = record { lane = 0; number = 0 }

-- the calls of the front that are of e's lane, or of a slot that e's method needs, are reached
abbrev pub Covers : Setting → List Logged → Logged → List Place → Type 0
Covers y front e places =
    (n : Logged) → In n front → (n.place.lane ≡ e.place.lane) ⊎ In (slot_at y n) (y.needs e.act.method) → Reaches places n.place

-- for each call that the replica decided, places that cover what stands before it in the log
abbrev pub AreFronts : Setting → ℕ → List Logged → List (List Place) → Type 0
AreFronts y r log fronts =
    (i : ℕ) (e : Logged) → slice_get log i ≡ Some e → y.decider e.place.lane ≡ r → Covers y (take i log) e (get_or fronts i [])

-- the same of the first n calls
abbrev pub AreFrontsBelow : Setting → ℕ → List Logged → List (List Place) → ℕ → Type 0
AreFrontsBelow y r log fronts n =
    (i : ℕ) (e : Logged) → i < n → slice_get log i ≡ Some e → y.decider e.place.lane ≡ r → Covers y (take i log) e (get_or fronts i [])

-- of each lane the calls up to its count all stand among those seen
abbrev pub HasFirst : List ℕ → List Place → Type 0
HasFirst counts seen = (l k : ℕ) → 0 < k → k ≤ slice_index counts l → stands (record { lane = l; number = k }) seen ≡ true

-- ---- while a log is gone through

-- the greatest number of each lane
abbrev pub AreHighest : List Logged → List ℕ → Type 0
AreHighest front highest = (n : Logged) → In n front → n.place.number ≤ slice_index highest n.place.lane

-- the farthest place of each slot
pub record AreFarthest (y : Setting) (front : List Logged) (farthest : List Place) (other : Place) : Type 0 where
  pub lane : (n : Logged) → In n front → (get_or farthest (slot_at y n) other).lane ≡ n.place.lane
  pub far : (n : Logged) → In n front → n.place.number ≤ (get_or farthest (slot_at y n) other).number

-- the places that a front tells of a call: the call's lane, and the slots that it needs
abbrev pub reached_by : Setting → Front → Logged → List Place
reached_by y f e =
    record { lane = e.place.lane; number = slice_index f.highest.items e.place.lane } ∷ map (λ s. get_or f.farthest.items s no_place) (y.needs e.act.method)

-- ---- at a position

-- whether a call needs another, if that precedes it where it was decided
abbrev pub need_between : Plan → Logged → Logged → Bool
need_between p e n = (n.place.lane == e.place.lane) || (conflicts p n.act.method e.act.method || depends_on p e.act.method n.act.method)

abbrev pub IsIn : List (List Logged) → Logged → Type 0
IsIn records e = (r : ℕ) × In e (log_of records r)

-- each replica's fronts
pub record AreAllFronts (y : Setting) (records : List (List Logged)) (fronts : List (List (List Place))) : Type 0 where
  pub many : length fronts ≡ y.replicas
  pub each : (r : ℕ) → IsReplica y r → AreFronts y r (log_of records r) (get_or fronts (r - 1) [])
  pub size : (r : ℕ) → IsReplica y r → length (get_or fronts (r - 1) []) ≡ length (log_of records r)

-- the plan's methods that conflict share a lane, and a method's dependency array has what it depends on
abbrev pub IsNeeding : Site → Type 0
IsNeeding site = IsSetting (rules_at site) (setting_at site)

-- one call more, where it is the next of its lane
abbrev pub counted : List ℕ → Place → List ℕ
counted counts c = if slice_index counts c.lane == (c.number - 1) then slice_set counts c.lane c.number else counts

abbrev pub late_or_none : Setting → List (List Logged) → ℕ → ℕ → Option Logged → Option AuditFault
late_or_none y records r index None = None
late_or_none y records r index (Some e) =
    late_by r (index + 1) (late_need y (audited y records) e.place (places (take index (log_of records r))) ((audited y records).before e.place))

-- what is wrong with the call at an index, from 0, of a replica's log
abbrev pub late_here : Setting → List (List Logged) → ℕ → ℕ → Option AuditFault
late_here y records r index = late_or_none y records r index (slice_get (log_of records r) index)
