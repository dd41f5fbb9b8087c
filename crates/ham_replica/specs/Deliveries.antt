-- A delivery's work on a replica's lists.
use Rattle.std.specs.Prelude.{◌≡◌, ◌≢◌, ◌⊎◌, ℕ, ◌+◌, ◌<◌, ◌≤◌, true, List, [], length, get_or, Option, None, Some, Result, Ok, Err, IsTrue}
use Rattle.ham_lists.specs.declared.list.NoMemory.{NoMemory}
use Rattle.ham_syntax.specs.declared.act.Call.{Call}
use Rattle.ham_syntax.specs.declared.limits.TheConstants.{MAX_LANE_CALLS, MAX_REQUESTS}
use Rattle.ham_buffer.specs.declared.buffer.Kept.{Kept}
use Rattle.ham_buffer.specs.Buffers.{with_kept}
use Rattle.ham_lane.specs.declared.out_lane.AckBeyond.{AckBeyond}
use Rattle.ham_frame.specs.declared.frame.Frame.{Frame}
use Rattle.ham_frame.specs.Spelling.{FitsAct}
use Rattle.ham_turns.specs.declared.turn.Delivered.{Delivered}
use Rattle.ham_turns.specs.declared.turn.What.TheVariants as whats
use Rattle.ham_turns.specs.declared.turn.DeliverRefusal.{DeliverRefusal}
use Rattle.ham_turns.specs.declared.turn.DeliverRefusal.TheVariants as refusals
use Rattle.ham_turns.specs.declared.turn.Out.{Out}
use Rattle.ham_turns.specs.Settings.{IsReplica}
use Rattle.ham_turns.specs.Refusals.{deliver_refusal}
use Rattle.ham_turns.specs.Ready.{IsSettled}
use Rattle.ham_turns.specs.Words.{FrameComes, place_of}
use Rattle.ham_site.specs.declared.out.Turn.{Turn}
use Rattle.ham_site.specs.Sites.{Site, rules_at, setting_at}
use Rattle.ham_replica.specs.declared.held.Request.{Request}
use Rattle.ham_replica.specs.Values.{Lists, words}
use Rattle.ham_replica.specs.Steps.{acked_more}
use Rattle.ham_replica.specs.Kept.{IsKept, waits_of}
use Rattle.ham_replica.specs.Issues.{Answers}

-- what the conditions of a delivery say of a replica and the sender
pub record MayDeliver (site : Site) (v : Lists) (from : ℕ) : Type 0 where
  pub kept : IsKept site v
  pub settled : IsSettled (setting_at site) (words v)
  pub sender : IsReplica (setting_at site) from
  pub another : from ≢ site.me

-- what the tests of a delivery say
abbrev pub Tests : Option DeliverRefusal → Result Unit DeliverRefusal → Type 0
Tests refusal (Ok _) = refusal ≡ None
Tests refusal (Err why) = (why ≡ refusals.NoMemory) ⊎ (refusal ≡ Some why)

-- what a turn leaves that took in a frame which the tests let pass; without memory all stays
abbrev pub TakesFrame : Site → Lists → Lists → ℕ → Frame → Result (Turn Delivered) NoMemory → Type 0
TakesFrame site old new from f (Ok t) = (which : ℕ) → Answers site old new (FrameComes from which f) (whats.Delivered t.answer) t.logged t.out t.settled
TakesFrame site old new from f (Err _) = new ≡ old

pub record IsDelivered (site : Site) (old new : Lists) (from : ℕ) (f : Frame) (t : Turn Delivered) : Type 0 where
  pub accepted : deliver_refusal (rules_at site) (setting_at site) (words old) site.me from f ≡ None
  pub answers : (which : ℕ) → Answers site old new (FrameComes from which f) (whats.Delivered t.answer) t.logged t.out t.settled

-- a refusal leaves the lists, and is the table's or want of memory
abbrev pub DeliversIn : Site → Lists → Lists → ℕ → Frame → Result (Turn Delivered) DeliverRefusal → Type 0
DeliversIn site old new from f (Ok t) = IsDelivered site old new from f t
DeliversIn site old new from f (Err why) = (new ≡ old) × ((why ≡ refusals.NoMemory) ⊎ (deliver_refusal (rules_at site) (setting_at site) (words old) site.me from f ≡ Some why))

-- a turn that logs nothing
pub record IsPlain (t : Turn Delivered) (answer : Delivered) (out : List Out) : Type 0 where
  pub answered : t.answer ≡ answer
  pub logged : t.logged ≡ []
  pub sent : t.out ≡ out
  pub settled : t.settled ≡ true

-- ---- calls

-- a call that the tests of a delivery let pass, and that is new here
pub record MayTake (site : Site) (v : Lists) (c : Call) : Type 0 where
  pub lane : c.lane < (setting_at site).lanes
  pub elsewhere : (setting_at site).decider c.lane ≢ site.me
  pub method : c.act.method < (setting_at site).methods
  pub own : (setting_at site).lane c.act.method ((setting_at site).decider c.lane) ≡ c.lane
  pub fits : IsTrue ((rules_at site).fits c.act)
  pub deps : length ((setting_at site).needs c.act.method) ≡ length c.deps
  pub some : 1 ≤ c.number
  pub few : c.number ≤ MAX_LANE_CALLS
  pub fresh : (words v).kept (place_of c) ≡ None

-- a call with what it waits for
abbrev pub waiting_call : Site → Call → Kept
waiting_call site c = record { call = c; waits = waits_of ((setting_at site).needs c.act.method) c.deps }

-- the call waits now; without memory all stays
abbrev pub TakesCall : Site → Lists → Lists → Call → Result Unit NoMemory → Type 0
TakesCall site old new c (Ok _) = new ≡ record old { buffer = with_kept old.buffer (waiting_call site c) }
TakesCall site old new c (Err _) = new ≡ old

-- ---- acknowledgements

-- a peer has the calls of a lane up to this number; or there are fewer
abbrev pub Acks : Lists → Lists → ℕ → ℕ → ℕ → Result Unit AckBeyond → Type 0
Acks old new lane peer n (Ok _) = (n ≤ length (get_or old.decided lane [])) × (new ≡ acked_more old lane peer n)
Acks old new lane peer n (Err beyond) = (length (get_or old.decided lane []) < n) × (beyond.len ≡ length (get_or old.decided lane [])) × (new ≡ old)

-- ---- requests

-- a request that the tests let pass and that is the next of its sender and group
pub record MayRule (site : Site) (v : Lists) (q : Request) : Type 0 where
  pub may : MayDeliver site v q.from
  pub group : q.group < (setting_at site).groups
  pub here : (setting_at site).decider q.group ≡ site.me
  pub method : q.act.method < (setting_at site).methods
  pub lane : (setting_at site).lane q.act.method q.from ≡ q.group
  pub fits : IsTrue ((rules_at site).fits q.act)
  pub frame : FitsAct q.act
  pub next : q.number ≡ length ((words v).rulings q.from q.group) + 1
  pub few : q.number ≤ MAX_REQUESTS
