-- The calls that a drain logs, one step after another.
use Rattle.std.proofs.Common.{◌≡◌, ◌≢◌, ◌++◌, ◌-◌, cond, true, false, ◌≤◌, ◌<◌, List, [], ◌∷◌, map, refl, sym, subst, ap, ◌∙◌, append_assoc, arith}
use Rattle.std.specs.Prelude.{Some, None, is_some, option_map}
use Rattle.std.specs.FinMap as finmap
use Rattle.std.proofs.lemmas.List.{append-nil}
use Rattle.ham_syntax.specs.declared.act.Place.{Place}
use Rattle.ham_syntax.specs.declared.act.Call.{Call}
use Rattle.ham_buffer.specs.declared.buffer.Kept.{Kept}
use Rattle.ham_buffer.specs.Buffers.{place_cmp, Buffer, kept_at, kept_call, without, IsNextReady}
use Rattle.ham_buffer.proofs.Maps.{place_cmp_total}
use Rattle.ham_site.specs.Sites.{Site, rules_at, setting_at}
use Rattle.ham_turns.specs.Words.{ReplicaWords, place_of}
use Rattle.ham_turns.specs.Work.{logged_one}
use Rattle.ham_turns.specs.Ready.{IsReadyHere, LogsReady, Stop, Log, IsSettled}
use Rattle.ham_replica.specs.Values.{Lists, words}
use Rattle.ham_replica.specs.Steps.{slot_of}
use Rattle.ham_replica.specs.Kept.{IsKept}
use Rattle.ham_replica.specs.Shown.{LogsOne, IsStuck}
use Rattle.ham_replica.specs.Drains.{GoesOn, Drains}
use Rattle.ham_replica.proofs.Logging.{logged_is_one}
use Rattle.ham_replica.proofs.Readiness.{next_is_least, none_is_settled, some_is_unsettled}
use Rattle.ham_replica.proofs.Items.{map_push}
use Rattle.ham_replica.proofs.Keeping.{waiting_logged}
use Rattle.ham_replica.proofs.Loggable.{ready_loggable}

-- one more call after those that were logged
logs_more : (site : Site) (w u : ReplicaWords) (calls : List Call) (c : Call) → LogsReady (rules_at site) (setting_at site) w calls u → IsReadyHere (setting_at site) u c →
    ((d : Call) → IsReadyHere (setting_at site) u d → c.lane ≤ d.lane) → LogsReady (rules_at site) (setting_at site) w (calls ++ c ∷ []) (logged_one (rules_at site) (setting_at site) u c)
logs_more site w u [] c Stop ready least = Log c ready least Stop
logs_more site w u (d ∷ calls) c (Log e before first rest) ready least = Log e before first (logs_more site (logged_one (rules_at site) (setting_at site) w d) u calls c rest ready least)

pub goes_nowhere : (site : Site) (v : Lists) (places : List Place) → GoesOn site v v places places
goes_nowhere site v places = record { calls = []; logs = Stop; told = sym (append-nil places) }

module _ (site : Site) where
  -- what one step leaves is kept, and is the table's
  pub step_kept : (v w : Lists) (before after : List Place) → IsKept site v → LogsOne site v w before after → IsKept site w
  step_kept v w before after is one =
      let can = ready_loggable site v is one.place one.kept one.first.0 one.found in
      let wait = is.waiting one.place one.kept one.found in
      let elsewhere : (setting_at site).decider one.kept.call.lane ≢ site.me = subst (λ (p : Place). (setting_at site).decider p.lane ≢ site.me) wait.place wait.elsewhere in
      subst (IsKept site) (sym one.lists) (waiting_logged site v is one.kept.call can.next elsewhere)

  pub step_goes : (v u w : Lists) (first before after : List Place) → IsKept site u → GoesOn site v u first before → LogsOne site u w before after → GoesOn site v w first after
  step_goes v u w first before after is so one =
      let can = ready_loggable site u is one.place one.kept one.first.0 one.found in
      let least = next_is_least site u is one.place one.kept one.first one.found in
      let slot = subst (λ n. slot_of site one.kept.call < n) (sym is.shaped.counts) can.slot in
      let lane = subst (λ n. one.kept.call.lane < n) (sym is.shaped.came) can.next.lane in
      let waits : kept_call u.buffer (place_of one.kept.call) ≡ Some one.kept.call = ap (kept_call u.buffer) (sym can.place) ∙ ap (option_map (λ (k : Kept). k.call)) one.found in
      let words_are : words w ≡ logged_one (rules_at site) (setting_at site) (words u) one.kept.call = ap words one.lists ∙ logged_is_one site u one.kept.call slot lane can.number waits in
      record {
        calls = so.calls ++ one.kept.call ∷ [];
        logs = subst (LogsReady (rules_at site) (setting_at site) (words v) (so.calls ++ one.kept.call ∷ [])) (sym words_are) (logs_more site (words v) (words u) so.calls one.kept.call so.logs least.0 least.1);
        told = one.told ∙ ap (λ l. l ++ place_of one.kept.call ∷ []) so.told ∙ append_assoc first (map place_of so.calls) (place_of one.kept.call ∷ []) ∙ ap (λ l. first ++ l) (sym (map_push place_of so.calls one.kept.call));
      }

-- the buffer gets shorter
len_smaller : (b : Buffer) (p : Place) (k : Kept) → kept_at b p ≡ Some k → finmap.len (without b p).kept < finmap.len b.kept
len_smaller b p k h =
    let positive : finmap.len b.kept ≡ 0 → ⊥ = λ (z : finmap.len b.kept ≡ 0). none_some (sym (finmap.get-empty place_cmp p) ∙ ap (λ m. finmap.get m p) (sym (finmap.empty_of_len b.kept z)) ∙ h) in
    let less : finmap.len (without b p).kept ≡ finmap.len b.kept - 1 = finmap.len-remove place_cmp_total b.kept p ∙ ap (λ o. cond (is_some o) (finmap.len b.kept - 1) (finmap.len b.kept)) h in
    omega arith
  where
    none_some : {X : Type 0} {z : X} → None ≡ Some z → ⊥
    none_some e = cc

pub buffer_shorter : (site : Site) (v w : Lists) (before after : List Place) → IsKept site v → LogsOne site v w before after → finmap.len w.buffer.kept < finmap.len v.buffer.kept
buffer_shorter site v w before after is one =
    let can = ready_loggable site v is one.place one.kept one.first.0 one.found in
    let found = ap (kept_at v.buffer) (sym can.place) ∙ one.found in
    subst (λ (u : Lists). finmap.len u.buffer.kept < finmap.len v.buffer.kept) (sym one.lists) (len_smaller v.buffer (place_of one.kept.call) one.kept found)

module _ (site : Site) (v u w : Lists) (first before after : List Place) (is : IsKept site u) (so : GoesOn site v u first before) where
  goes_same : w ≡ u → after ≡ before → GoesOn site v w first after
  goes_same e f = subst (λ z. GoesOn site v z first after) (sym e) (subst (λ z. GoesOn site v u first z) (sym f) so)

  pub ends_settled : IsNextReady u.buffer u.logged u.counts None → w ≡ u → after ≡ before → Drains site v w first after true
  ends_settled none e f = record {
    kept = subst (IsKept site) (sym e) is;
    goes = goes_same e f;
    settled = (λ t. subst (λ (z : Lists). IsSettled (setting_at site) (words z)) (sym e) (none_is_settled site u is none), λ s. refl);
  }

  pub ends_stuck : IsStuck u w before after → Drains site v w first after false
  ends_stuck one = record {
    kept = subst (IsKept site) (sym one.same.0) is;
    goes = goes_same one.same.0 one.same.1;
    settled = (λ t. absurd (differ t), λ s. absurd (some_is_unsettled site u is one.place one.first (subst (λ (z : Lists). IsSettled (setting_at site) (words z)) one.same.0 s)));
  }
    where
      differ : false ≡ true → ⊥
      differ h = cc
