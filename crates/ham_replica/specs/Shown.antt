-- The fields of a replica, as lists; and what the steps of a drain do to them.
use Rattle.std.specs.Prelude.{◌≡◌, ℕ, ◌≤◌, ◌<◌, Bool, true, false, List, [], ◌∷◌, ◌++◌, map, get_or, Some, None, vec_len, vec_capacity}
use Rattle.std.specs.Global.{Vec}
use Rattle.ham_syntax.specs.declared.act.Place.{Place}
use Rattle.ham_lane.specs.Lanes.{InLane, OutLane}
use Rattle.ham_buffer.specs.declared.buffer.Kept.{Kept}
use Rattle.ham_buffer.specs.Buffers.{kept_at, IsNextReady}
use Rattle.ham_turns.specs.Words.{place_of}
use Rattle.ham_site.specs.Sites.{Site}
use Rattle.ham_replica.specs.declared.held.Held.{Held}
use Rattle.ham_replica.specs.declared.held.Next.{Next}
use Rattle.ham_replica.specs.declared.held.Next.TheVariants as nexts
use Rattle.ham_replica.specs.Values.{Lists}
use Rattle.ham_replica.specs.Steps.{log_waiting}

abbrev pub lists_of : Held → Lists
lists_of h = record {
  state = h.state.content;
  watched = h.state.invariants;
  log = h.log.items;
  counts = h.counts.items;
  logged = h.logged.items;
  decided = map (λ l. l.calls) h.outs.items;
  acked = map (λ l. l.acked) h.outs.items;
  came = map (λ l. l.calls) h.ins.items;
  buffer = h.buffer;
  asks = h.asks;
  rulings = map (map (λ g. g.ruled)) h.rulings;
}

-- ---- room

abbrev pub no_in_lane : InLane
no_in_lane = record { calls = []; spare = 0 }

abbrev pub no_out_lane : OutLane
no_out_lane = record { calls = []; acked = []; spare = 0 }

-- there is room for a place in a list
abbrev pub HasPlace : Vec Place → Type 0
HasPlace places = vec_len places < vec_capacity places

-- there is room to log a call of the lane that came
pub record HasRoom (h : Held) (places : Vec Place) (lane : ℕ) : Type 0 where
  pub log : HasPlace h.log
  pub told : HasPlace places
  pub came : 1 ≤ (get_or h.ins.items lane no_in_lane).spare

-- there is room to log a call that is decided here
pub record HasOutRoom (h : Held) (places : Vec Place) (lane : ℕ) : Type 0 where
  pub log : HasPlace h.log
  pub told : HasPlace places
  pub out : 1 ≤ (get_or h.outs.items lane no_out_lane).spare

-- ---- steps of a drain

-- a waiting call was logged, and its place told
pub record LogsOne (site : Site) (old new : Lists) (before after : List Place) : Type 0 where
  pub place : Place
  pub kept : Kept
  pub first : IsNextReady old.buffer old.logged old.counts (Some place)
  pub found : kept_at old.buffer place ≡ Some kept
  pub lists : new ≡ log_waiting site old kept.call
  pub told : after ≡ before ++ place_of kept.call ∷ []

-- nothing changed
abbrev pub IsAsBefore : Lists → Lists → List Place → List Place → Type 0
IsAsBefore old new before after = (new ≡ old) × (after ≡ before)

-- a call is ready, and nothing changed
pub record IsStuck (old new : Lists) (before after : List Place) : Type 0 where
  pub place : Place
  pub first : IsNextReady old.buffer old.logged old.counts (Some place)
  pub same : IsAsBefore old new before after

-- one step of the drain
abbrev pub LogsNext : Site → Lists → Lists → List Place → List Place → Next → Type 0
LogsNext site old new before after nexts.Logged = LogsOne site old new before after
LogsNext site old new before after nexts.Settled = IsNextReady old.buffer old.logged old.counts None × IsAsBefore old new before after
LogsNext site old new before after nexts.Stuck = IsStuck old new before after

-- a ready call was logged or, for want of memory, nothing was
abbrev pub LogsOrNot : Site → Lists → Lists → List Place → List Place → Bool → Type 0
LogsOrNot site old new before after true = LogsOne site old new before after
LogsOrNot site old new before after false = IsAsBefore old new before after
