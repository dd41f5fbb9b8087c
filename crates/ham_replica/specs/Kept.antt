-- What the type of a replica keeps.
--     IsShaped, IsWaiting, IsFolded, HasRanges     of its lists, of calls that wait, of the state, of what may be sent
--     IsKept                                       all of it
use Rattle.std.specs.Prelude.{◌≡◌, ◌≢◌, ℕ, ◌+◌, ◌*◌, ◌^◌, ◌≤◌, ◌<◌, List, [], ◌∷◌, length, map, get_or, sum, Some, IsSome, IsTrue, count_by}
use Rattle.std.specs.List.{AllByRecursion, fold}
use Rattle.ham_syntax.specs.declared.act.Place.{Place}
use Rattle.ham_syntax.specs.declared.act.Call.{Call}
use Rattle.ham_syntax.specs.declared.limits.TheConstants.{MAX_LANE_CALLS, MAX_REQUESTS}
use Rattle.ham_plan.specs.Lists.{In}
use Rattle.ham_buffer.specs.declared.wait.Wait.{Wait}
use Rattle.ham_buffer.specs.declared.buffer.Kept.{Kept}
use Rattle.ham_buffer.specs.Buffers.{kept_at}
use Rattle.ham_frame.specs.Spelling.{FitsAct, FitsCall, FitsRuling}
use Rattle.ham_turns.specs.Settings.{IsReplica}
use Rattle.ham_turns.specs.Words.{place_of, in_lane}
use Rattle.ham_site.specs.Sites.{Site, IsSite, rules_at, setting_at, slots_at, IsBounded}
use Rattle.ham_replica.specs.Values.{Lists}
use Rattle.ham_replica.specs.Looks.{logged_call}

-- what a call waits for: a count of each slot of its array
abbrev pub waits_of : List ℕ → List ℕ → List Wait
waits_of [] deps = []
waits_of (s ∷ slots) [] = []
waits_of (s ∷ slots) (n ∷ deps) = record { slot = s; count = n } ∷ waits_of slots deps

-- a call that waits is of a lane decided elsewhere and above those logged, and was taken in by the table's tests
pub record IsWaiting (site : Site) (v : Lists) (p : Place) (k : Kept) : Type 0 where
  pub place : p ≡ place_of k.call
  pub lane : p.lane < (setting_at site).lanes
  pub elsewhere : (setting_at site).decider p.lane ≢ site.me
  pub above : get_or v.logged p.lane 0 < p.number
  pub few : p.number ≤ MAX_LANE_CALLS
  pub method : k.call.act.method < (setting_at site).methods
  pub own : (setting_at site).lane k.call.act.method ((setting_at site).decider p.lane) ≡ p.lane
  pub fits : IsTrue ((rules_at site).fits k.call.act)
  pub waits : k.waits ≡ waits_of ((setting_at site).needs k.call.act.method) k.call.deps

-- the lists have a place for each lane, slot, group and peer
pub record IsShaped (site : Site) (v : Lists) : Type 0 where
  pub counts : length v.counts ≡ slots_at site
  pub logged : length v.logged ≡ (setting_at site).lanes
  pub decided : length v.decided ≡ (setting_at site).lanes
  pub acked : length v.acked ≡ (setting_at site).lanes
  pub peers : AllByRecursion (λ a. length a ≡ (setting_at site).replicas + 1) v.acked
  pub came : length v.came ≡ (setting_at site).lanes
  pub lanes : v.buffer.lanes ≡ (setting_at site).lanes
  pub buffer : v.buffer.slots ≡ slots_at site
  pub asks : length v.asks ≡ (setting_at site).groups
  pub senders : length v.rulings ≡ (setting_at site).replicas + 1
  pub groups : AllByRecursion (λ s. length s ≡ (setting_at site).groups) v.rulings

-- The state is what the logged calls make of the opening, one after another; and only calls in the log are in lanes.
pub record IsFolded (site : Site) (v : Lists) : Type 0 where
  pub calls : List Call
  pub places : v.log ≡ map place_of calls
  pub kept : AllByRecursion (λ c. logged_call v (place_of c) ≡ Some c) calls
  pub only : (p : Place) → IsSome (logged_call v p) → In p v.log
  pub state : v.state ≡ fold (λ s (c : Call). (rules_at site).update c.act s) (rules_at site).opening calls

-- what may be sent again has a place in frames
pub record HasRanges (v : Lists) : Type 0 where
  pub decided : (l : ℕ) → AllByRecursion FitsCall (get_or v.decided l [])
  pub asked : (g : ℕ) → AllByRecursion (λ a. FitsAct a.act) (get_or v.asks g [])
  pub few_asked : (g : ℕ) → length (get_or v.asks g []) ≤ MAX_REQUESTS
  pub ruled : (from g : ℕ) → AllByRecursion (λ d. FitsRuling d.ruling) (get_or (get_or v.rulings from []) g [])

pub record IsKept (site : Site) (v : Lists) : Type 0 where
  pub at : IsSite site
  pub opened : v.watched ≡ site.object.invariants
  pub shaped : IsShaped site v
  pub lanes : (l : ℕ) → get_or v.logged l 0 ≡ count_by (in_lane l) v.log
  pub here : (l : ℕ) → (setting_at site).decider l ≡ site.me → (get_or v.logged l 0 ≡ length (get_or v.decided l [])) × (get_or v.came l [] ≡ [])
  pub elsewhere : (l : ℕ) → (setting_at site).decider l ≢ site.me → (get_or v.logged l 0 ≡ length (get_or v.came l [])) × (get_or v.decided l [] ≡ [])
  pub few : AllByRecursion (λ n. n ≤ MAX_LANE_CALLS) v.logged
  pub total : length v.log ≡ sum v.logged
  pub counted : (s : ℕ) → get_or v.counts s 0 ≤ length v.log
  -- calls of a slot are of one lane
  pub slotted : (m r : ℕ) → m < (setting_at site).methods → IsReplica (setting_at site) r →
      get_or v.counts ((setting_at site).slot m r) 0 ≤ get_or v.logged ((setting_at site).lane m r) 0
  pub values : IsBounded v.state (length v.log * 2 ^ 35)
  pub folded : IsFolded site v
  pub waiting : (p : Place) (k : Kept) → kept_at v.buffer p ≡ Some k → IsWaiting site v p k
  pub ranges : HasRanges v
