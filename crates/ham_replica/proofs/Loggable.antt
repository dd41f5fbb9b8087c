-- A ready call can be logged: what the code needs for it.
use Rattle.std.proofs.Common.{◌≡◌, ◌≢◌, ℕ, ◌+◌, ◌*◌, ◌^◌, ◌≤◌, ◌<◌, List, [], length, get_or, sym, subst, ap, ◌∙◌, arith}
use Rattle.std.specs.Prelude.{Option, Some}
use Rattle.ham_syntax.specs.declared.act.Place.{Place}
use Rattle.ham_syntax.specs.declared.act.Call.{Call}
use Rattle.ham_buffer.specs.declared.buffer.Kept.{Kept}
use Rattle.ham_buffer.specs.Buffers.{Buffer, kept_at, kept_call, without, IsReady, IsNextReady}
use Rattle.ham_state.specs.Content.{State}
use Rattle.ham_syntax.specs.declared.object.Invariant.{Invariant}
use Rattle.ham_site.specs.Sites.{IsBounded}
use Rattle.ham_site.proofs.Bounds.{bounded_more}
use Rattle.ham_site.specs.Sites.{Site, rules_at, setting_at, slots_at}
use Rattle.ham_turns.specs.Settings.{IsReplica}
use Rattle.ham_turns.specs.Words.{place_of}
use Rattle.ham_replica.specs.Values.{Lists}
use Rattle.ham_replica.specs.Steps.{slot_of, put_came, log_waiting}
use Rattle.ham_replica.specs.Kept.{IsKept}
use Rattle.ham_replica.proofs.Items.{sum_few}
use Rattle.ham_replica.proofs.Keeping.{IsNext, slot_there}
use Rattle.ham_replica.proofs.Readiness.{call_kept, counted_kept}

module _ (site : Site) (v : Lists) (is : IsKept site v) where
  pub log_few : length v.log ≤ 16777216
  log_few =
      let total = is.total in
      let few = sum_few 65536 v.logged is.few in
      let long = is.shaped.logged in
      let lanes = is.at.tabled.few_lanes in
      omega arith

  pub state_small : IsBounded v.state (2 ^ 60)
  state_small = let few = log_few in bounded_more v.state (length v.log * 2 ^ 35) (2 ^ 60) is.values (omega arith)

module _ (site : Site) (v : Lists) (is : IsKept site v) where
  pub state_within : IsBounded v.state (2 ^ 59)
  state_within = let few = log_few site v is in bounded_more v.state (length v.log * 2 ^ 35) (2 ^ 59) is.values (omega arith)

-- what the code needs to log a waiting call
pub record IsLoggable (site : Site) (v : Lists) (p : Place) (c : Call) : Type 0 where
  pub place : p ≡ place_of c
  pub next : IsNext site v c
  pub decider : IsReplica (setting_at site) ((setting_at site).decider c.lane)
  pub slot : slot_of site c < slots_at site
  pub many : get_or v.counts (slot_of site c) 0 < 4294967295
  pub number : c.number ≡ length (get_or v.came c.lane []) + 1

pub record IsFound (site : Site) (v : Lists) (p : Place) (c : Call) : Type 0 where
  pub kept : Kept
  pub at : kept_at v.buffer p ≡ Some kept
  pub call : kept.call ≡ c
  pub can : IsLoggable site v p c

module _ (site : Site) (v : Lists) (is : IsKept site v) where
  pub ready_loggable : (p : Place) (k : Kept) → IsReady v.buffer v.logged v.counts p → kept_at v.buffer p ≡ Some k → IsLoggable site v p k.call
  ready_loggable p k r e =
      let w = is.waiting p k e in
      let lane : p.lane ≡ k.call.lane = ap (λ (q : Place). q.lane) w.place in
      let number : p.number ≡ k.call.number = ap (λ (q : Place). q.number) w.place in
      let there : k.call.lane < (setting_at site).lanes = subst (λ l. l < (setting_at site).lanes) lane w.lane in
      let decider = is.at.tabled.decider_exists k.call.lane there in
      let next : p.number ≡ get_or v.logged p.lane 0 + 1 = r.next in
      let next_there : k.call.number ≡ get_or v.logged k.call.lane 0 + 1 = sym number ∙ next ∙ ap (λ l. get_or v.logged l 0 + 1) lane in
      let elsewhere : (setting_at site).decider k.call.lane ≢ site.me = subst (λ l. (setting_at site).decider l ≢ site.me) lane w.elsewhere in
      let came = (is.elsewhere k.call.lane elsewhere).0 in
      let few = w.few in
      let log = log_few site v is in
      let count = is.counted (slot_of site k.call) in
      let next_call : IsNext site v k.call = record {
        lane = there;
        few = omega arith;
        number = next_there;
        method = w.method;
        own = subst (λ l. (setting_at site).lane k.call.act.method ((setting_at site).decider l) ≡ l) lane w.own;
        fits = w.fits;
      } in
      record {
        place = w.place;
        next = next_call;
        decider = decider;
        slot = slot_there site v is k.call next_call;
        many = omega arith;
        number = next_there ∙ ap (λ n. n + 1) came;
      }

  pub found_loggable : (p : Place) (c : Call) → IsReady v.buffer v.logged v.counts p → Some c ≡ kept_call v.buffer p → IsFound site v p c
  found_loggable p c r e =
      let k = call_kept (kept_at v.buffer p) c (sym e) in
      record { kept = k.0; at = k.1; call = k.2; can = subst (IsLoggable site v p) k.2 (ready_loggable p k.0 r k.1) }

-- the next ready call is of a lane that exists
pub ready_lane : (site : Site) (v w : Lists) (p : Place) → IsKept site v → IsNextReady v.buffer v.logged v.counts (Some p) → w ≡ v → p.lane < length w.came
ready_lane site v w p is first same =
    let found = counted_kept v.counts (kept_at v.buffer p) first.0.met in
    let lane = (is.waiting p found.0 found.1).lane in
    subst (λ (u : Lists). p.lane < length u.came) (sym same) (subst (λ n. p.lane < n) (sym is.shaped.came) lane)

-- the slot as the code finds it
pub slot_as : (site : Site) (a b : Call) (p : Place) (d s : ℕ) → a ≡ b → p ≡ place_of b → d ≡ (setting_at site).decider p.lane → s ≡ (setting_at site).slot a.act.method d → s ≡ slot_of site b
slot_as site a b p d s same place decider slot =
    slot ∙ ap ((setting_at site).slot a.act.method) (decider ∙ ap (λ (q : Place). (setting_at site).decider q.lane) place) ∙ ap (λ (c : Call). (setting_at site).slot c.act.method ((setting_at site).decider b.lane)) same

pub same_some : {X : Type 0} (a b : X) (o : Option X) → Some a ≡ o → Some b ≡ o → a ≡ b
same_some a b o e f = cc

-- the lists as the code leaves them
pub logs_lists : (site : Site) (v : Lists) (c k a : Call) (slot : ℕ) (p : Place) (state : State) (watched : List Invariant) (buffer : Buffer) →
    k ≡ c → a ≡ c → slot ≡ slot_of site c → p ≡ place_of c → state ≡ (rules_at site).update a.act v.state → watched ≡ v.watched → buffer ≡ without v.buffer p →
    put_came (record v { state = state; watched = watched; buffer = buffer }) c slot ≡ log_waiting site v k
logs_lists site v c k a slot p state watched buffer same act is_slot place update opened rest =
    (λ i. put_came (record v { state = (update ∙ ap (λ (z : Call). (rules_at site).update z.act v.state) act) i; watched = opened i; buffer = (rest ∙ ap (without v.buffer) place) i }) c (is_slot i))
    ∙ ap (log_waiting site v) (sym same)
