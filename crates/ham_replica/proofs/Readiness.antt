-- What is ready by the buffer is what is ready by the table.
use Rattle.std.proofs.Common.{◌≡◌, ℕ, ◌+◌, ◌≤◌, ◌<◌, true, List, [], ◌∷◌, length, get_or, refl, sym, subst, ap, ◌∙◌, inl, inr, arith}
use Rattle.std.specs.Prelude.{Option, Some, None, nat_le, option_map, count_by}
use Rattle.std.proofs.lemmas.Bool.{leb-true, le-leb, and_parts, and_from, cases_eq}
use Rattle.ham_syntax.specs.declared.act.Place.{Place}
use Rattle.ham_syntax.specs.declared.act.Call.{Call}
use Rattle.ham_buffer.specs.declared.buffer.Kept.{Kept}
use Rattle.ham_buffer.specs.Buffers.{kept_at, kept_call, is_within, has_counts, IsReady, IsNextReady}
use Rattle.ham_site.specs.Sites.{Site, setting_at}
use Rattle.ham_turns.specs.Words.{ReplicaWords, numbered, place_of, in_lane}
use Rattle.ham_turns.specs.Work.{first_of_two}
use Rattle.ham_turns.specs.Ready.{IsWithin, IsReadyHere, IsSettled}
use Rattle.ham_replica.specs.Values.{Lists, words}
use Rattle.ham_replica.specs.Kept.{waits_of, IsKept}
use Rattle.ham_replica.proofs.Items.{numbered_beyond}

-- ---- counts

pub within_to : (w : ReplicaWords) (counts : List ℕ) → ((s : ℕ) → w.count_of s ≡ get_or counts s 0) → (slots deps : List ℕ) → is_within counts (waits_of slots deps) ≡ true → IsWithin w deps slots
within_to w counts same slots [] h = tt
within_to w counts same [] (n ∷ deps) h = tt
within_to w counts same (s ∷ slots) (n ∷ deps) h =
    let parts = and_parts (nat_le n (get_or counts s 0)) (is_within counts (waits_of slots deps)) h in
    let met = leb-true n (get_or counts s 0) parts.0 in
    let count = same s in
    (omega arith, within_to w counts same slots deps parts.1)

pub within_from : (w : ReplicaWords) (counts : List ℕ) → ((s : ℕ) → w.count_of s ≡ get_or counts s 0) → (slots deps : List ℕ) → IsWithin w deps slots → is_within counts (waits_of slots deps) ≡ true
within_from w counts same [] [] h = refl
within_from w counts same (s ∷ slots) [] h = refl
within_from w counts same [] (n ∷ deps) h = refl
within_from w counts same (s ∷ slots) (n ∷ deps) h =
    let count = same s in
    let met = h.0 in
    and_from (nat_le n (get_or counts s 0)) (is_within counts (waits_of slots deps)) (le-leb n (get_or counts s 0) (omega arith)) (within_from w counts same slots deps h.1)

-- ---- kept calls

pub call_kept : (o : Option Kept) (c : Call) → option_map (λ k. k.call) o ≡ Some c → (k : Kept) × (o ≡ Some k) × (k.call ≡ c)
call_kept None c e = cc
call_kept (Some k) c e = (k, refl, cc)

pub counted_kept : (counts : List ℕ) (o : Option Kept) → has_counts counts o ≡ true → (k : Kept) × (o ≡ Some k) × (is_within counts k.waits ≡ true)
counted_kept counts None e = cc
counted_kept counts (Some k) e = (k, refl, e)

module _ (site : Site) (v : Lists) (is : IsKept site v) where
  -- how many calls of a lane came and are logged
  pub came_few : (l : ℕ) → length (get_or v.came l []) ≤ get_or v.logged l 0
  came_few l = elim (cases_eq ((setting_at site).decider l) site.me) [
    | inl e ↦ let none = ap length (is.here l e).1 in omega arith
    | inr ne ↦ let many = (is.elsewhere l ne).0 in omega arith
  ]

  pub kept_beyond : (p : Place) → get_or v.logged p.lane 0 < p.number → (words v).kept p ≡ kept_call v.buffer p
  kept_beyond p h =
      let few = came_few p.lane in
      let none : numbered (get_or v.came p.lane []) p.number ≡ None = numbered_beyond (get_or v.came p.lane []) p.number (omega arith) in
      ap (λ o. first_of_two o (kept_call v.buffer p)) none

  pub ready_here : (p : Place) → IsReady v.buffer v.logged v.counts p → (k : Kept) → kept_at v.buffer p ≡ Some k → IsReadyHere (setting_at site) (words v) k.call
  ready_here p r k e =
      let w = is.waiting p k e in
      let met : is_within v.counts k.waits ≡ true = ap (has_counts v.counts) (sym e) ∙ r.met in
      let next : p.number ≡ get_or v.logged p.lane 0 + 1 = r.next in
      let call : kept_call v.buffer p ≡ Some k.call = ap (option_map (λ (z : Kept). z.call)) e in
      let beyond : get_or v.logged p.lane 0 < p.number = omega arith in
      let lane : p.lane ≡ k.call.lane = ap (λ (q : Place). q.lane) w.place in
      let number : p.number ≡ k.call.number = ap (λ (q : Place). q.number) w.place in
      record {
        lane = subst (λ l. l < (setting_at site).lanes) lane w.lane;
        kept = subst (λ q. (words v).kept q ≡ Some k.call) w.place (kept_beyond p beyond ∙ call);
        next = sym number ∙ next ∙ ap (λ n. n + 1) (is.lanes p.lane ∙ ap (λ l. count_by (in_lane l) v.log) lane);
        counts = within_to (words v) v.counts (λ s. refl) ((setting_at site).needs k.call.act.method) k.call.deps (ap (is_within v.counts) (sym w.waits) ∙ met);
      }

  pub ready_there : (d : Call) → IsReadyHere (setting_at site) (words v) d → IsReady v.buffer v.logged v.counts (place_of d) × (kept_call v.buffer (place_of d) ≡ Some d)
  ready_there d r =
      let counted = is.lanes d.lane in
      let next : d.number ≡ get_or v.logged d.lane 0 + 1 = r.next ∙ ap (λ n. n + 1) (sym counted) in
      let beyond : get_or v.logged d.lane 0 < d.number = omega arith in
      let call : kept_call v.buffer (place_of d) ≡ Some d = sym (kept_beyond (place_of d) beyond) ∙ r.kept in
      let found = call_kept (kept_at v.buffer (place_of d)) d call in
      let w = is.waiting (place_of d) found.0 found.1 in
      let needs : found.0.waits ≡ waits_of ((setting_at site).needs d.act.method) d.deps = w.waits ∙ ap (λ (c : Call). waits_of ((setting_at site).needs c.act.method) c.deps) found.2 in (
        record {
          next = next;
          met = ap (has_counts v.counts) found.1 ∙ ap (is_within v.counts) needs ∙ within_from (words v) v.counts (λ s. refl) ((setting_at site).needs d.act.method) d.deps r.counts;
        },
        call,
      )

  -- the buffer's next ready call is the ready one of the least lane
  pub next_is_least : (p : Place) (k : Kept) → IsNextReady v.buffer v.logged v.counts (Some p) → kept_at v.buffer p ≡ Some k →
      IsReadyHere (setting_at site) (words v) k.call × ((d : Call) → IsReadyHere (setting_at site) (words v) d → k.call.lane ≤ d.lane)
  next_is_least p k first e =
      let w = is.waiting p k e in
      let lane : p.lane ≡ k.call.lane = ap (λ (q : Place). q.lane) w.place in
      (ready_here p first.0 k e, λ d r. subst (λ l. l ≤ d.lane) lane (first.1 (place_of d) (ready_there d r).0))

  pub none_is_settled : IsNextReady v.buffer v.logged v.counts None → IsSettled (setting_at site) (words v)
  none_is_settled none d r = none (place_of d) (ready_there d r).0

  pub ready_is_unsettled : (p : Place) → IsReady v.buffer v.logged v.counts p → IsSettled (setting_at site) (words v) → ⊥
  ready_is_unsettled p ready settled =
      let found = counted_kept v.counts (kept_at v.buffer p) ready.met in
      settled found.0.call (ready_here p ready found.0 found.1)

  pub some_is_unsettled : (p : Place) → IsNextReady v.buffer v.logged v.counts (Some p) → IsSettled (setting_at site) (words v) → ⊥
  some_is_unsettled p first settled = ready_is_unsettled p first.0 settled
