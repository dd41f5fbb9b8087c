-- How far the auditor went through each log, while it took the decided calls in the order of decision.
--     at_of, past_of, state_of    of a replica: how far, what was gone through, and the state after it
--     IsPast                      the pointers and the states, where so many calls are taken
--     IsUnder, IsAt               records whose positions have no fault; the auditor's progress in them
use Rattle.std.specs.Prelude.{◌≡◌, ℕ, ◌-◌, ◌+◌, ◌*◌, ◌^◌, ◌≤◌, zero, suc, Bool, true, false, if◌then◌else◌, ◌==◌, List, map, take, length, get_or, slice_get, slice_set, Option, Some, None, All}
use Rattle.ham_syntax.specs.declared.act.Act.{Act}
use Rattle.ham_syntax.specs.declared.act.Place.{Place}
use Rattle.ham_plan.specs.Lists.{In}
use Rattle.ham_state.specs.Content.{State}
use Rattle.ham_state.specs.Store.{Store}
use Rattle.ham_meaning.specs.declared.outcome.Outcome.{Outcome}
use Rattle.ham_meaning.specs.declared.outcome.Outcome.TheVariants as outcomes
use Rattle.ham_laws.specs.Executions.{end_of}
use Rattle.ham_turns.specs.Settings.{Rules, Setting, meaning_by, IsReplica}
use Rattle.ham_site.specs.Sites.{Site, rules_at, setting_at, IsBounded}
use Rattle.ham_records.specs.declared.records.Logged.{Logged}
use Rattle.ham_audit.specs.declared.order.Progress.{Progress}
use Rattle.ham_audit.specs.declared.fault.AuditFault.{AuditFault}
use Rattle.ham_audit.specs.declared.fault.AuditFault.TheVariants as audit
use Rattle.ham_audit.specs.Records.{log_of, places, stands, deciding_log}
use Rattle.ham_audit.specs.Order.{audited, taken_after, next_taken}
use Rattle.ham_audit.specs.Faults as faults
use Rattle.ham_audit.specs.Claims.{IsRecorded}

-- how many calls of a replica's log were gone through; replicas count from 1
abbrev pub at_of : List ℕ → ℕ → ℕ
at_of at zero = 0
at_of at (suc k) = get_or at k 0

-- what was gone through of a replica's log
abbrev pub past_of : List (List Logged) → List ℕ → ℕ → List Place
past_of records at r = places (take (at_of at r) (log_of records r))

abbrev pub state_of : List State → ℕ → State → State
state_of states r other = get_or states (r - 1) other

-- a call is taken exactly where the log of the replica that decides it was gone through beyond it; each replica's state
-- is that after what was gone through of its log, and that is taken
pub record IsPast (x : Rules) (y : Setting) (records : List (List Logged)) (at : List ℕ) (states : List State) (taken : List Place) : Type 0 where
  pub passed : (c : Place) → stands c taken ≡ stands c (places (take (at_of at (y.decider c.lane)) (deciding_log y records c)))
  pub behind : (r : ℕ) (c : Place) → In c (past_of records at r) → stands c taken ≡ true
  pub within : (r : ℕ) → at_of at r ≤ length (log_of records r)
  pub state : (r : ℕ) → IsReplica y r → state_of states r x.opening ≡ end_of (meaning_by x) (audited y records) (past_of records at r)
  pub small : (r : ℕ) → IsReplica y r → IsBounded (state_of states r x.opening) (at_of at r * 2 ^ 35)
  pub many_at : length at ≡ y.replicas
  pub many_states : length states ≡ y.replicas

-- ---- as the code keeps it

abbrev pub contents : List Store → List State
contents stores = map (λ s. s.content) stores

-- the records are of the site's replicas, their acts fit, and no position has a fault
pub record IsUnder (site : Site) (records : List (List Logged)) : Type 0 where
  pub recorded : IsRecorded (rules_at site) (setting_at site) records
  pub placed : faults.place_fault (rules_at site) (setting_at site) records ≡ None
  pub few : (r : ℕ) → length (log_of records r) ≤ 2 ^ 24

-- so many calls are taken, and the first of them that was not permissible is known
pub record IsAt (site : Site) (records : List (List Logged)) (p : Progress) : Type 0 where
  pub past : IsPast (rules_at site) (setting_at site) records p.at.items (contents p.states.items) (taken_after (setting_at site) records p.count)
  pub taken : length (taken_after (setting_at site) records p.count) ≡ p.count
  pub forbidden : p.forbidden ≡ faults.forbidden_among (rules_at site) (setting_at site) records (taken_after (setting_at site) records p.count)
  pub opened : All (λ s. s.invariants ≡ site.object.invariants) p.states.items

-- the call to which the log was gone through, if it is not at its end
abbrev pub next_in : List (List Logged) → List ℕ → ℕ → Option Logged
next_in records at r = slice_get (log_of records r) (at_of at r)

-- that call, where the replica decides it
abbrev pub own_in : Setting → ℕ → Option Logged → Option Logged
own_in y r None = None
own_in y r (Some e) = if y.decider e.place.lane == r then Some e else None

-- what is wrong with a call that its replica decided with this outcome
abbrev pub forbidden_with : ℕ → ℕ → Outcome → Option AuditFault
forbidden_with r index outcomes.Yes = None
forbidden_with r index (outcomes.Guard g) = Some (audit.Impermissible r index (outcomes.Guard g))
forbidden_with r index (outcomes.Invariant v) = Some (audit.Impermissible r index (outcomes.Invariant v))

-- one call more is taken; or none can be
abbrev pub HasTaken : Setting → List (List Logged) → ℕ → ℕ → Bool → Type 0
HasTaken y records before after true = after ≡ before + 1
HasTaken y records before after false = (after ≡ before) × (next_taken y records (taken_after y records before) ≡ None)

-- one call of the replica's log more was gone through
pub record Passes (site : Site) (r : ℕ) (a : Act) (old new : Progress) : Type 0 where
  pub at : new.at.items ≡ slice_set old.at.items (r - 1) (at_of old.at.items r + 1)
  pub states : contents new.states.items ≡
      slice_set (contents old.states.items) (r - 1) ((rules_at site).update a (state_of (contents old.states.items) r (rules_at site).opening))
  pub opened : All (λ s. s.invariants ≡ site.object.invariants) new.states.items
  pub count : new.count ≡ old.count
  pub forbidden : new.forbidden ≡ old.forbidden
