-- Going through logs: one call further, where it is taken, and where it is taken by going.
use Rattle.std.proofs.Common.{◌≡◌, ◌≢◌, ◌⊎◌, ◌++◌, ℕ, ◌+◌, ◌-◌, ◌*◌, ◌^◌, ◌<◌, ◌≤◌, zero, suc, Bool, true, false, cond, eqb, List, [], ◌∷◌, length, length-set, take, get_or, refl, sym, subst, ap, ◌∙◌, inl, inr, Some, None, Option, arith}
use Rattle.std.specs.Prelude.{slice_get, slice_index, slice_set, nat_lt}
use Rattle.std.proofs.lemmas.Bool.{true≢false, eq-eqb, ne_eqb, lt-ltb, le-ltb, cases_eq, cases_order, cases_lt}
use Rattle.std.proofs.lemmas.List.{get_or-set_other}
use Rattle.std.proofs.lemmas.Grind.{get_or-set_at}
use Rattle.ham_syntax.specs.declared.act.Place.{Place}
use Rattle.ham_state.specs.Content.{State}
use Rattle.ham_plan.specs.Lists.{In}
use Rattle.ham_plan.proofs.Lists.{true_or_false, in_last}
use Rattle.ham_laws.specs.Executions.{end_of}
use Rattle.ham_turns.specs.Settings.{Rules, Setting, meaning_by, IsReplica}
use Rattle.ham_turns.specs.Words.{same_place}
use Rattle.ham_runs.proofs.Decisions.{same_place_refl}
use Rattle.ham_runs.proofs.Drained.{state_one}
use Rattle.ham_site.specs.Sites.{IsBounded}
use Rattle.ham_records.specs.declared.records.Logged.{Logged}
use Rattle.ham_audit.specs.Records.{log_of, places, stands, deciding_log, act_at}
use Rattle.ham_audit.specs.Order.{audited}
use Rattle.ham_audit.specs.Indexed.{first_index}
use Rattle.ham_audit.specs.Passing.{at_of, past_of, state_of, IsPast}
use Rattle.ham_audit.proofs.Indexing.{is_below, stands_below, one_less}
use Rattle.ham_audit.proofs.Looking.{take_push, places_push}
use Rattle.ham_audit.proofs.Pointing.{Passed, moved, passes_taken, passes_own}

-- the pointer of r set
pub at_set : (at : List ℕ) (r n q : ℕ) → 1 ≤ r → r ≤ length at → at_of (slice_set at (r - 1) n) q ≡ cond (eqb r q) n (at_of at q)
at_set at zero n q low high = absurd (omega arith)
at_set at (suc k) n zero low high = sym (ap (λ b. cond b n 0) (ne_eqb (suc k) 0 (λ q. absurd (omega arith))))
at_set at (suc k) n (suc j) low high =
    let e : suc k - 1 ≡ k = omega arith in
    ap (λ i. get_or (slice_set at i n) j 0) e ∙ by_cases (cases_eq j k)
  where
    by_cases : (j ≡ k) ⊎ (j ≡ k → ⊥) → get_or (slice_set at k n) j 0 ≡ cond (eqb (suc k) (suc j)) n (get_or at j 0)
    by_cases (inl q) = get_or-set_at at k j n 0 q (omega arith) ∙ sym (ap (λ b. cond b n (get_or at j 0)) (eq-eqb (suc k) (suc j) (omega arith)))
    by_cases (inr ne) = get_or-set_other at k j n 0 ne ∙ sym (ap (λ b. cond b n (get_or at j 0)) (ne_eqb (suc k) (suc j) (λ q. ne (omega arith))))

-- the state of r set
pub state_set : (states : List State) (r q : ℕ) (s other : State) → 1 ≤ r → r ≤ length states → 1 ≤ q → state_of (slice_set states (r - 1) s) q other ≡ cond (eqb r q) s (state_of states q other)
state_set states r q s other low high some = by_cases (cases_eq q r)
  where
    by_cases : (q ≡ r) ⊎ (q ≡ r → ⊥) → get_or (slice_set states (r - 1) s) (q - 1) other ≡ cond (eqb r q) s (get_or states (q - 1) other)
    by_cases (inl e) = get_or-set_at states (r - 1) (q - 1) s other (ap (λ n. n - 1) e) (omega arith) ∙ sym (ap (λ b. cond b s (get_or states (q - 1) other)) (eq-eqb r q (sym e)))
    by_cases (inr ne) = get_or-set_other states (r - 1) (q - 1) s other (λ e. ne (omega arith)) ∙ sym (ap (λ b. cond b s (get_or states (q - 1) other)) (ne_eqb r q (λ e. ne (sym e))))

pub moved_is : (at : List ℕ) (r q : ℕ) → 1 ≤ r → r ≤ length at → at_of (slice_set at (r - 1) (at_of at r + 1)) q ≡ moved (at_of at) r q
moved_is at r q low high = at_set at r (at_of at r + 1) q low high ∙ by_cases (cases_eq r q)
  where
    by_cases : (r ≡ q) ⊎ (r ≡ q → ⊥) → cond (eqb r q) (at_of at r + 1) (at_of at q) ≡ moved (at_of at) r q
    by_cases (inl e) = ap (λ b. cond b (at_of at r + 1) (at_of at q)) (eq-eqb r q e) ∙ ap (λ k. at_of at k + 1) e ∙ sym (ap (λ b. cond b (at_of at q + 1) (at_of at q)) (eq-eqb r q e))
    by_cases (inr ne) = ap (λ b. cond b (at_of at r + 1) (at_of at q)) (ne_eqb r q ne) ∙ sym (ap (λ b. cond b (at_of at q + 1) (at_of at q)) (ne_eqb r q ne))

pub at_own_next : (at : List ℕ) (r : ℕ) → 1 ≤ r → r ≤ length at → at_of (slice_set at (r - 1) (at_of at r + 1)) r ≡ at_of at r + 1
at_own_next at r low high = at_set at r (at_of at r + 1) r low high ∙ ap (λ b. cond b (at_of at r + 1) (at_of at r)) (eq-eqb r r refl)

pub got_place : (log : List Logged) (i : ℕ) (e : Logged) → i < length log → e ≡ get_or log i e → slice_get (places log) i ≡ Some e.place
got_place [] i e h q = absurd (omega arith)
got_place (x ∷ log) zero e h q = ap (λ (z : Logged). Some z.place) (sym q)
got_place (x ∷ log) (suc i) e h q = got_place log i e (omega arith) q

-- what stands at an index stands first there or before
pub first_at : (xs : List Place) (i : ℕ) (c : Place) → slice_get xs i ≡ Some c → (j : ℕ) × (first_index c xs ≡ Some j) × (j ≤ i)
first_at [] i c h = absurd (none c h)
  where
    none : (c : Place) → None ≡ Some c → ⊥
    none c h = cc
first_at (x ∷ xs) i c h = elim (true_or_false (same_place x c)) [
  | inl t ↦ (0, rw t refl, omega arith)
  | inr f ↦ later i h f (λ k q. first_at xs k c q)
]
  where
    some_is : (a b : Place) → Some a ≡ Some b → a ≡ b
    some_is a b h = cc

    later : (i : ℕ) → slice_get (x ∷ xs) i ≡ Some c → same_place x c ≡ false →
        ((k : ℕ) → slice_get xs k ≡ Some c → (j : ℕ) × (first_index c xs ≡ Some j) × (j ≤ k)) → (j : ℕ) × (first_index c (x ∷ xs) ≡ Some j) × (j ≤ i)
    later zero h f rest = absurd (true≢false (sym (same_place_refl x) ∙ subst (λ z. same_place x z ≡ false) (sym (some_is x c h)) f))
    later (suc i) h f rest = let w = rest i h in (w.0 + 1, rw (f, w.1) refl, let l = w.2 in omega arith)

below_not : (a : ℕ) (o : Option ℕ) (j : ℕ) → o ≡ Some j → is_below a o ≡ false → a ≤ j
below_not a o j q f = elim (cases_lt j a) [
  | inl less ↦ absurd (true≢false (sym (lt-ltb j a less) ∙ sym (ap (is_below a) q) ∙ f))
  | inr more ↦ more
]

pub stands_front : (c : Place) (xs ys : List Place) → stands c xs ≡ true → stands c (xs ++ ys) ≡ true
stands_front c [] ys h = absurd (true≢false (sym h))
stands_front c (x ∷ xs) ys h = elim (true_or_false (same_place x c)) [ inl t ↦ rw t refl | inr f ↦ rw f (stands_front c xs ys (rw f at h)) ]

pub stands_last : (xs : List Place) (c : Place) → stands c (xs ++ c ∷ []) ≡ true
stands_last [] c = rw (same_place_refl c) refl
stands_last (x ∷ xs) c = elim (true_or_false (same_place x c)) [ inl t ↦ rw t refl | inr f ↦ rw f (stands_last xs c) ]

-- what is so of the call e at which r's pointer stands
module _ (x : Rules) (y : Setting) (records : List (List Logged)) (at : List ℕ) (states : List State) (taken : List Place) (is : IsPast x y records at states taken) (r : ℕ) (replica : IsReplica y r) (e : Logged) (inside : at_of at r < length (log_of records r)) (here : e ≡ get_or (log_of records r) (at_of at r) e) where
  abbrev pub at_next : List ℕ
  at_next = slice_set at (r - 1) (at_of at r + 1)

  abbrev pub states_next : List State
  states_next = slice_set states (r - 1) (x.update e.act (state_of states r x.opening))

  low_at : r ≤ length at
  low_at = let n = is.many_at in let h = replica.1 in omega arith

  low_states : r ≤ length states
  low_states = let n = is.many_states in let h = replica.1 in omega arith

  pub pointed : Passed y records (at_of at) taken
  pointed c = is.passed c ∙ stands_below c (at_of at (y.decider c.lane)) (deciding_log y records c)

  got : slice_get (places (log_of records r)) (at_of at r) ≡ Some e.place
  got = got_place (log_of records r) (at_of at r) e inside here

  pub past_own : past_of records at_next r ≡ past_of records at r ++ e.place ∷ []
  past_own =
      ap (λ n. places (take n (log_of records r))) (at_set at r (at_of at r + 1) r replica.0 low_at ∙ ap (λ b. cond b (at_of at r + 1) (at_of at r)) (eq-eqb r r refl))
      ∙ ap places (take_push (log_of records r) (at_of at r) e inside here) ∙ places_push (take (at_of at r) (log_of records r)) e

  at_other : (q : ℕ) → (r ≡ q → ⊥) → at_of at_next q ≡ at_of at q
  at_other q ne = at_set at r (at_of at r + 1) q replica.0 low_at ∙ ap (λ b. cond b (at_of at r + 1) (at_of at q)) (ne_eqb r q ne)

  at_own : at_of at_next r ≡ at_of at r + 1
  at_own = at_set at r (at_of at r + 1) r replica.0 low_at ∙ ap (λ b. cond b (at_of at r + 1) (at_of at r)) (eq-eqb r r refl)

  -- one call further, where the calls `more` are taken
  module _ (more : List Place) (points : Passed y records (moved (at_of at) r) more) (grows : (c : Place) → stands c taken ≡ true → stands c more ≡ true) (stood : stands e.place more ≡ true)
      (act : (audited y records).act e.place ≡ e.act) (bounded : IsBounded (x.update e.act (state_of states r x.opening)) (at_of at r * 2 ^ 35 + 2 ^ 35)) where
    further_state : (q : ℕ) → IsReplica y q → state_of states_next q x.opening ≡ end_of (meaning_by x) (audited y records) (past_of records at_next q)
    further_state q there = elim (cases_eq r q) [
      | inl same ↦ subst (λ k. state_of states_next k x.opening ≡ end_of (meaning_by x) (audited y records) (past_of records at_next k)) same
          (state_set states r r (x.update e.act (state_of states r x.opening)) x.opening replica.0 low_states replica.0
          ∙ ap (λ b. cond b (x.update e.act (state_of states r x.opening)) (state_of states r x.opening)) (eq-eqb r r refl)
          ∙ ap (λ s. x.update e.act s) (is.state r replica)
          ∙ ap (λ a. x.update a (end_of (meaning_by x) (audited y records) (past_of records at r))) (sym act)
          ∙ sym (state_one x (audited y records) x.opening (past_of records at r) e.place)
          ∙ ap (end_of (meaning_by x) (audited y records)) (sym past_own))
      | inr ne ↦
          state_set states r q (x.update e.act (state_of states r x.opening)) x.opening replica.0 low_states there.0
          ∙ ap (λ b. cond b (x.update e.act (state_of states r x.opening)) (state_of states q x.opening)) (ne_eqb r q ne)
          ∙ is.state q there
          ∙ ap (λ n. end_of (meaning_by x) (audited y records) (places (take n (log_of records q)))) (sym (at_other q ne))
    ]

    further_small : (q : ℕ) → IsReplica y q → IsBounded (state_of states_next q x.opening) (at_of at_next q * 2 ^ 35)
    further_small q there = elim (cases_eq r q) [
      | inl same ↦ subst (λ k. IsBounded (state_of states_next k x.opening) (at_of at_next k * 2 ^ 35)) same
          (subst (λ s. IsBounded s (at_of at_next r * 2 ^ 35)) (sym (state_set states r r (x.update e.act (state_of states r x.opening)) x.opening replica.0 low_states replica.0
          ∙ ap (λ b. cond b (x.update e.act (state_of states r x.opening)) (state_of states r x.opening)) (eq-eqb r r refl)))
          (subst (λ n. IsBounded (x.update e.act (state_of states r x.opening)) n) (sum (at_of at r) ∙ ap (λ n. n * 2 ^ 35) (sym at_own)) bounded))
      | inr ne ↦
          subst (λ s. IsBounded s (at_of at_next q * 2 ^ 35)) (sym (state_set states r q (x.update e.act (state_of states r x.opening)) x.opening replica.0 low_states there.0
          ∙ ap (λ b. cond b (x.update e.act (state_of states r x.opening)) (state_of states q x.opening)) (ne_eqb r q ne)))
          (subst (λ n. IsBounded (state_of states q x.opening) (n * 2 ^ 35)) (sym (at_other q ne)) (is.small q there))
    ]
      where
        sum : (n : ℕ) → n * 2 ^ 35 + 2 ^ 35 ≡ (n + 1) * 2 ^ 35
        sum n = omega arith

    further_behind : (q : ℕ) (c : Place) → In c (past_of records at_next q) → stands c more ≡ true
    further_behind q c k = elim (cases_eq r q) [
      | inl same ↦ elim (in_last c e.place (past_of records at r) (subst (λ l. In c l) past_own (subst (λ v. In c (past_of records at_next v)) (sym same) k))) [
        | inl j ↦ grows c (is.behind r c j)
        | inr is_it ↦ subst (λ z. stands z more ≡ true) (sym is_it) stood
      ]
      | inr ne ↦ grows c (is.behind q c (subst (λ n. In c (places (take n (log_of records q)))) (at_other q ne) k))
    ]

    further_within : (q : ℕ) → at_of at_next q ≤ length (log_of records q)
    further_within q = elim (cases_eq r q) [
      | inl same ↦ subst (λ v. at_of at_next v ≤ length (log_of records v)) same (let n = at_own in omega arith)
      | inr ne ↦ subst (λ n. n ≤ length (log_of records q)) (sym (at_other q ne)) (is.within q)
    ]

    pub further : IsPast x y records at_next states_next more
    further = record {
      passed = λ c.
          points c ∙ ap (λ n. is_below n (first_index c (places (deciding_log y records c)))) (sym (moved_is at r (y.decider c.lane) replica.0 low_at))
          ∙ sym (stands_below c (at_of at_next (y.decider c.lane)) (deciding_log y records c));
      behind = further_behind;
      within = further_within;
      state = further_state;
      small = further_small;
      many_at = length-set at (r - 1) (at_of at r + 1) ∙ is.many_at;
      many_states = length-set states (r - 1) (x.update e.act (state_of states r x.opening)) ∙ is.many_states;
    }

  -- the pointer passes a call that is taken
  pub past_taken : stands e.place taken ≡ true → (audited y records).act e.place ≡ e.act → IsBounded (x.update e.act (state_of states r x.opening)) (at_of at r * 2 ^ 35 + 2 ^ 35) →
      IsPast x y records at_next states_next taken
  past_taken t act bounded = further taken (passes_taken y records (at_of at) taken r e.place pointed got t) (λ c k. k) t act bounded

  -- the first index of a call that isn't taken is where the pointer stands
  pub own_first : y.decider e.place.lane ≡ r → stands e.place taken ≡ false → first_index e.place (places (deciding_log y records e.place)) ≡ Some (at_of at r)
  own_first own f =
      let w = first_at (places (log_of records r)) (at_of at r) e.place got in
      let q : first_index e.place (places (deciding_log y records e.place)) ≡ Some w.0 = ap (λ v. first_index e.place (places (log_of records v))) own ∙ w.1 in
      let high : at_of at r ≤ w.0 =
      below_not (at_of at r) _ w.0 q (ap (λ v. is_below (at_of at v) (first_index e.place (places (deciding_log y records e.place)))) (sym own) ∙ sym (pointed e.place) ∙ f) in
      let low = w.2 in
      q ∙ ap (λ n. Some n) (omega arith)

  -- the pointer passes a call that its replica decides, which is taken so
  pub past_decided : y.decider e.place.lane ≡ r → stands e.place taken ≡ false → (audited y records).act e.place ≡ e.act →
      IsBounded (x.update e.act (state_of states r x.opening)) (at_of at r * 2 ^ 35 + 2 ^ 35) → IsPast x y records at_next states_next (taken ++ e.place ∷ [])
  past_decided own f act bounded =
      further (taken ++ e.place ∷ []) (passes_own y records (at_of at) taken r e.place pointed got own (own_first own f)) (λ c k. stands_front c taken (e.place ∷ []) k) (stands_last taken e.place) act bounded
