-- What the auditor's lists hold at a replica's place.
use Rattle.std.proofs.Common.{◌≡◌, ℕ, ◌+◌, ◌-◌, ◌*◌, ◌^◌, ◌<◌, ◌≤◌, zero, suc, List, [], ◌∷◌, map, length, take, get_or, None, refl, sym, subst, ap, ◌∙◌, arith}
use Rattle.std.specs.Prelude.{slice_set, replicate, All}
use Rattle.std.proofs.lemmas.List.{map-set, get_or-map, get_or_default, length-map, length-replicate}
use Rattle.ham_state.specs.Content.{State}
use Rattle.ham_state.specs.Store.{Store}
use Rattle.ham_syntax.specs.declared.act.Place.{Place}
use Rattle.ham_plan.specs.Lists.{In}
use Rattle.ham_laws.specs.Executions.{end_of}
use Rattle.ham_turns.specs.Settings.{meaning_by}
use Rattle.ham_site.specs.Sites.{Site, rules_at, setting_at, IsBounded}
use Rattle.ham_site.proofs.Bounds.{bounded_more, bounded_opening}
use Rattle.ham_records.specs.declared.records.Logged.{Logged}
use Rattle.ham_audit.specs.declared.order.Progress.{Progress}
use Rattle.ham_audit.specs.Records.{log_of, places, stands}
use Rattle.ham_audit.specs.Order.{audited, taken_after}
use Rattle.ham_audit.specs.Faults as faults
use Rattle.ham_audit.specs.Passing.{at_of, state_of, contents, IsPast, IsAt}

pub at_is : (at : List ℕ) (r n : ℕ) → 1 ≤ r → r ≤ length at → n ≡ get_or at (r - 1) n → n ≡ at_of at r
at_is at zero n low high q = absurd (omega arith)
at_is at (suc k) n low high q =
    let e : suc k - 1 ≡ k = omega arith in
    q ∙ ap (λ i. get_or at i n) e ∙ get_or_default at k n 0 (omega arith)

pub state_is : (states : List Store) (r : ℕ) (s : Store) (other : State) → 1 ≤ r → r ≤ length states → s ≡ get_or states (r - 1) s → s.content ≡ state_of (contents states) r other
state_is states r s other low high q = ap (λ (z : Store). z.content) q ∙ sym (get_or-map (λ (z : Store). z.content) states (r - 1) s other (omega arith))

pub contents_set : (states : List Store) (r : ℕ) (s : Store) → contents (slice_set states (r - 1) s) ≡ slice_set (contents states) (r - 1) s.content
contents_set states r s = map-set (λ (z : Store). z.content) states (r - 1) s

pub many_contents : (states : List Store) → length (contents states) ≡ length states
many_contents states = length-map states (λ (z : Store). z.content)

pub only : {X : Type 0} (P : X → Type 0) (a : X) → P a → All P (a ∷ [])
only P a h zero d k = h
only P a h (suc n) d k = absurd (omega (arith, k))

-- ---- before the first call

abbrev pub zeros : ℕ → List ℕ
zeros n = replicate n 0

zero_at : (n k : ℕ) → get_or (zeros n) k 0 ≡ 0
zero_at zero k = refl
zero_at (suc n) zero = refl
zero_at (suc n) (suc k) = zero_at n k

pub none_gone : (n r : ℕ) → at_of (zeros n) r ≡ 0
none_gone n zero = refl
none_gone n (suc k) = zero_at n k

pub one_state : (n k : ℕ) (s : State) → get_or (replicate n s) k s ≡ s
one_state zero k s = refl
one_state (suc n) zero s = refl
one_state (suc n) (suc k) s = one_state n k s

pub begun_past : (site : Site) (records : List (List Logged)) →
    IsPast (rules_at site) (setting_at site) records (zeros (setting_at site).replicas) (replicate (setting_at site).replicas (rules_at site).opening) []
begun_past site records =
    let n = (setting_at site).replicas in
    record {
      passed = λ c. ap (λ k. stands c (places (take k (log_of records ((setting_at site).decider c.lane))))) (sym (none_gone n ((setting_at site).decider c.lane)));
      behind = λ r c k. absurd (subst (λ i. In c (places (take i (log_of records r)))) (none_gone n r) k);
      within = λ r. let z = none_gone n r in omega arith;
      state = λ r there. one_state n (r - 1) (rules_at site).opening
          ∙ ap (λ k. end_of (meaning_by (rules_at site)) (audited (setting_at site) records) (places (take k (log_of records r)))) (sym (none_gone n r));
      small = λ r there. subst (λ s. IsBounded s (at_of (zeros n) r * 2 ^ 35)) (sym (one_state n (r - 1) (rules_at site).opening))
          (bounded_more (rules_at site).opening 0 (at_of (zeros n) r * 2 ^ 35) (bounded_opening site) (omega arith));
      many_at = length-replicate n 0;
      many_states = length-replicate n (rules_at site).opening;
    }

pub begun_at : (site : Site) (records : List (List Logged)) (p : Progress) → p.at.items ≡ zeros (setting_at site).replicas →
    contents p.states.items ≡ replicate (setting_at site).replicas (rules_at site).opening → p.count ≡ 0 → p.forbidden ≡ None →
    All (λ s. s.invariants ≡ site.object.invariants) p.states.items → IsAt site records p
begun_at site records p at states count forbidden opened = record {
  past = subst (λ k. IsPast (rules_at site) (setting_at site) records p.at.items (contents p.states.items) (taken_after (setting_at site) records k)) (sym count)
      (subst (λ l. IsPast (rules_at site) (setting_at site) records l (contents p.states.items) []) (sym at)
      (subst (λ l. IsPast (rules_at site) (setting_at site) records (zeros (setting_at site).replicas) l []) (sym states) (begun_past site records)));
  taken = ap (λ k. length (taken_after (setting_at site) records k)) count ∙ sym count;
  forbidden = forbidden ∙ ap (λ k. faults.forbidden_among (rules_at site) (setting_at site) records (taken_after (setting_at site) records k)) (sym count);
  opened = opened;
}
