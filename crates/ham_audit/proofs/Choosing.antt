-- Which call is taken next, by the pointers.
use Rattle.std.proofs.Common.{◌≡◌, ◌⊎◌, ◌++◌, ℕ, ◌+◌, ◌-◌, ◌<◌, ◌≤◌, zero, suc, Bool, true, false, cond, List, [], ◌∷◌, length, take, drop, get_or, refl, sym, subst, ap, ◌∙◌, inl, inr, Some, None, Option, arith}
use Rattle.std.specs.Prelude.{slice_get, ◌==◌, if◌then◌else◌}
use Rattle.std.specs.Option.{option_map}
use Rattle.std.specs.List.{range_with_len}
use Rattle.std.proofs.lemmas.Bool.{eq-eqb, ne_eqb, eqb-true}
use Rattle.ham_syntax.specs.declared.act.Place.{Place}
use Rattle.ham_meaning.specs.declared.outcome.Outcome.{Outcome}
use Rattle.ham_meaning.specs.declared.outcome.Outcome.TheVariants as outcomes
use Rattle.ham_plan.specs.Lists.{In}
use Rattle.ham_plan.proofs.Lists.{true_or_false}
use Rattle.ham_turns.specs.Settings.{Rules, Setting}
use Rattle.ham_turns.specs.Words.{same_place}
use Rattle.ham_turns.specs.Work.{first_of_two}
use Rattle.ham_records.specs.declared.records.Logged.{Logged}
use Rattle.ham_audit.specs.declared.fault.AuditFault.{AuditFault}
use Rattle.ham_audit.specs.Records.{log_of, places, stands, front_of}
use Rattle.ham_audit.specs.Order.{next_left, if_own, next_of, next_among, next_taken, with_next, taken_after, step, audited, order}
use Rattle.ham_audit.specs.Faults as faults
use Rattle.ham_audit.specs.Indexed.{first_index}
use Rattle.ham_audit.specs.Passing.{at_of, past_of, next_in, own_in, forbidden_with}
use Rattle.ham_audit.proofs.Indexing.{one_less}

none_some : {X : Type 0} (e : X) → None ≡ Some e → ⊥
none_some e h = cc

some_is : {X : Type 0} (a b : X) → Some a ≡ Some b → a ≡ b
some_is a b h = cc

-- calls that are taken are passed over
pub left_past : (taken xs ys : List Place) → ((c : Place) → In c xs → stands c taken ≡ true) → next_left taken (xs ++ ys) ≡ next_left taken ys
left_past taken [] ys h = refl
left_past taken (x ∷ xs) ys h = rw (h x (inl refl)) (left_past taken xs ys (λ c k. h c (inr k)))

places_split : (log : List Logged) (i : ℕ) → places log ≡ places (take i log) ++ places (drop i log)
places_split log zero = refl
places_split [] (suc i) = refl
places_split (e ∷ log) (suc i) = ap (λ l. e.place ∷ l) (places_split log i)

-- the first call that is not taken, where the call at an index isn't and those before it are
first_left : (taken : List Place) (log : List Logged) (i : ℕ) → ((c : Place) → In c (places (take i log)) → stands c taken ≡ true) →
    ((e : Logged) → slice_get log i ≡ Some e → stands e.place taken ≡ false) → next_left taken (places log) ≡ option_map (λ (e : Logged). e.place) (slice_get log i)
first_left taken log i behind here =
    ap (next_left taken) (places_split log i) ∙ left_past taken (places (take i log)) (places (drop i log)) behind ∙ from_here log i here
  where
    from_here : (log : List Logged) (i : ℕ) → ((e : Logged) → slice_get log i ≡ Some e → stands e.place taken ≡ false) →
        next_left taken (places (drop i log)) ≡ option_map (λ (e : Logged). e.place) (slice_get log i)
    from_here [] zero here = refl
    from_here [] (suc i) here = refl
    from_here (e ∷ log) zero here = rw (here e refl) refl
    from_here (e ∷ log) (suc i) here = from_here log i here

pub at_end : (log : List Logged) (i : ℕ) → length log ≤ i → slice_get log i ≡ None
at_end [] i h = refl
at_end (e ∷ log) zero h = absurd (omega arith)
at_end (e ∷ log) (suc i) h = at_end log i (omega arith)

pub at_inside : (log : List Logged) (i : ℕ) (e : Logged) → i < length log → e ≡ get_or log i e → slice_get log i ≡ Some e
at_inside [] i e h q = absurd (omega arith)
at_inside (x ∷ log) zero e h q = ap (λ z. Some z) (sym q)
at_inside (x ∷ log) (suc i) e h q = at_inside log i e (omega arith) q

pub left_at_end : (taken : List Place) (records : List (List Logged)) (at : List ℕ) (r : ℕ) → ((c : Place) → In c (past_of records at r) → stands c taken ≡ true) →
    length (log_of records r) ≤ at_of at r → next_left taken (places (log_of records r)) ≡ option_map (λ (e : Logged). e.place) (next_in records at r)
left_at_end taken records at r behind h =
    first_left taken (log_of records r) (at_of at r) behind (λ e q. absurd (none_some e (sym (at_end (log_of records r) (at_of at r) h) ∙ q)))

pub left_at_call : (taken : List Place) (records : List (List Logged)) (at : List ℕ) (r : ℕ) (e : Logged) → ((c : Place) → In c (past_of records at r) → stands c taken ≡ true) →
    at_of at r < length (log_of records r) → e ≡ get_or (log_of records r) (at_of at r) e → stands e.place taken ≡ false →
    next_left taken (places (log_of records r)) ≡ option_map (λ (e : Logged). e.place) (next_in records at r)
left_at_call taken records at r e behind h q f =
    first_left taken (log_of records r) (at_of at r) behind
    (λ d k. subst (λ (z : Logged). stands z.place taken ≡ false) (some_is e d (sym (at_inside (log_of records r) (at_of at r) e h q) ∙ k)) f)

-- ---- where the replica decides the call

pub own_some : (y : Setting) (r : ℕ) (o : Option Logged) (e : Logged) → o ≡ Some e → y.decider e.place.lane ≡ r → Some e ≡ own_in y r o
own_some y r o e q own = sym (ap (own_in y r) q ∙ ap (λ b. if b then Some e else None) (eq-eqb (y.decider e.place.lane) r own))

pub own_other : (y : Setting) (r : ℕ) (o : Option Logged) (e : Logged) → o ≡ Some e → (y.decider e.place.lane ≡ r → ⊥) → None ≡ own_in y r o
own_other y r o e q ne = sym (ap (own_in y r) q ∙ ap (λ b. if b then Some e else None) (ne_eqb (y.decider e.place.lane) r ne))

pub own_none : (y : Setting) (r : ℕ) (o : Option Logged) → o ≡ None → None ≡ own_in y r o
own_none y r o q = sym (ap (own_in y r) q)

-- the call, and that its replica decides it
pub own_call : (y : Setting) (r : ℕ) (o : Option Logged) (e : Logged) → own_in y r o ≡ Some e → (o ≡ Some e) × (y.decider e.place.lane ≡ r)
own_call y r None e h = absurd (none_some e h)
own_call y r (Some d) e h = elim (true_or_false (y.decider d.place.lane == r)) [
  | inl t ↦
      let q : d ≡ e = some_is d e (rw t at h) in
      (ap (λ z. Some z) q, subst (λ (z : Logged). y.decider z.place.lane ≡ r) q (eqb-true (y.decider d.place.lane) r t))
  | inr f ↦ absurd (none_some e (rw f at h))
]

pub at_call : (log : List Logged) (i : ℕ) (e : Logged) → slice_get log i ≡ Some e → (i < length log) × (e ≡ get_or log i e)
at_call [] zero e h = absurd (none_some e h)
at_call [] (suc i) e h = absurd (none_some e h)
at_call (x ∷ log) zero e h = (omega arith, sym (some_is x e h))
at_call (x ∷ log) (suc i) e h = let w = at_call log i e h in (let l = w.0 in omega arith, w.1)

-- ---- among replicas

own_is : (y : Setting) (r : ℕ) (o : Option Logged) → if_own y r (option_map (λ (e : Logged). e.place) o) ≡ option_map (λ (e : Logged). e.place) (own_in y r o)
own_is y r None = refl
own_is y r (Some e) = elim (true_or_false (y.decider e.place.lane == r)) [ inl t ↦ rw t refl | inr f ↦ rw f refl ]

pub next_is : (y : Setting) (records : List (List Logged)) (taken : List Place) (at : List ℕ) (r : ℕ) →
    next_left taken (places (log_of records r)) ≡ option_map (λ (e : Logged). e.place) (next_in records at r) →
    next_of y records taken r ≡ option_map (λ (e : Logged). e.place) (own_in y r (next_in records at r))
next_is y records taken at r h = ap (if_own y r) h ∙ own_is y r (next_in records at r)

-- among the replicas from r to n
abbrev pub next_from : Setting → List (List Logged) → List Place → ℕ → ℕ → Option Place
next_from y records taken r n = next_among y records taken (range_with_len r (n + 1 - r))

from_next : (y : Setting) (records : List (List Logged)) (taken : List Place) (r n : ℕ) → r ≤ n →
    next_from y records taken r n ≡ first_of_two (next_of y records taken r) (next_from y records taken (r + 1) n)
from_next y records taken r n h =
    let k : n + 1 - r ≡ suc (n + 1 - (r + 1)) = omega arith in ap (λ m. next_among y records taken (range_with_len r m)) k

pub from_none : (y : Setting) (records : List (List Logged)) (taken : List Place) (r n : ℕ) → r ≤ n → next_of y records taken r ≡ None →
    next_from y records taken (r + 1) n ≡ next_from y records taken r n
from_none y records taken r n h q = sym (from_next y records taken r n h ∙ ap (λ o. first_of_two o (next_from y records taken (r + 1) n)) q)

pub from_some : (y : Setting) (records : List (List Logged)) (taken : List Place) (r n : ℕ) (c : Place) → r ≤ n → next_of y records taken r ≡ Some c →
    next_from y records taken r n ≡ Some c
from_some y records taken r n c h q = from_next y records taken r n h ∙ ap (λ o. first_of_two o (next_from y records taken (r + 1) n)) q

pub from_past : (y : Setting) (records : List (List Logged)) (taken : List Place) (n : ℕ) → next_from y records taken (n + 1) n ≡ None
from_past y records taken n = let k : n + 1 - (n + 1) ≡ zero = omega arith in ap (λ m. next_among y records taken (range_with_len (n + 1) m)) k

-- ---- steps

pub taken_next : (y : Setting) (records : List (List Logged)) (k : ℕ) (c : Place) → next_taken y records (taken_after y records k) ≡ Some c →
    taken_after y records (k + 1) ≡ taken_after y records k ++ c ∷ []
taken_next y records k c h = ap (taken_after y records) (more k) ∙ ap (with_next (taken_after y records k)) h
  where
    more : (k : ℕ) → k + 1 ≡ suc k
    more k = omega arith

-- where a step takes nothing, no later one does
pub taken_stays : (y : Setting) (records : List (List Logged)) (k more : ℕ) → next_taken y records (taken_after y records k) ≡ None →
    taken_after y records (k + more) ≡ taken_after y records k
taken_stays y records k zero h = ap (taken_after y records) (omega arith)
taken_stays y records k (suc more) h =
    let q = taken_stays y records k more h in
    let e : k + suc more ≡ suc (k + more) = omega arith in
    ap (taken_after y records) e
    ∙ ap (step y records) q
    ∙ ap (with_next (taken_after y records k)) h

pub taken_all : (y : Setting) (records : List (List Logged)) (k total : ℕ) → k ≤ total → next_taken y records (taken_after y records k) ≡ None →
    taken_after y records k ≡ taken_after y records total
taken_all y records k total le h =
    sym (ap (taken_after y records) (let e : total ≡ k + (total - k) = omega arith in e) ∙ taken_stays y records k (total - k) h)

-- ---- what was not permissible

pub front_first : (c : Place) (xs : List Place) (j : ℕ) → first_index c xs ≡ Some j → front_of c xs ≡ take j xs
front_first c [] j h = absurd (none_some j h)
front_first c (x ∷ xs) j h = elim (true_or_false (same_place x c)) [
  | inl t ↦ rw t (ap (λ k. take k (x ∷ xs)) (some_is 0 j (rw t at h)))
  | inr f ↦
      let w = one_less (first_index c xs) j (rw f at h) in
      rw f (ap (λ l. x ∷ l) (front_first c xs w.0 w.1) ∙ ap (λ k. take k (x ∷ xs)) (sym w.2))
]

pub places_taken : (log : List Logged) (i : ℕ) → take i (places log) ≡ places (take i log)
places_taken log zero = refl
places_taken [] (suc i) = refl
places_taken (e ∷ log) (suc i) = ap (λ l. e.place ∷ l) (places_taken log i)

pub past_length : (log : List Logged) (i : ℕ) → i ≤ length log → length (places (take i log)) ≡ i
past_length log zero h = refl
past_length [] (suc i) h = absurd (omega arith)
past_length (e ∷ log) (suc i) h = let n = past_length log i (omega arith) in omega (arith, n)

pub forbidden_push : (x : Rules) (y : Setting) (records : List (List Logged)) (cs : List Place) (c : Place) →
    faults.forbidden_among x y records (cs ++ c ∷ []) ≡ first_of_two (faults.forbidden_among x y records cs) (faults.forbidden_by y records c (faults.outcome_at x y records c))
forbidden_push x y records [] c = last (faults.forbidden_by y records c (faults.outcome_at x y records c))
  where
    last : (o : Option AuditFault) → first_of_two o None ≡ o
    last None = refl
    last (Some f) = refl
forbidden_push x y records (d ∷ cs) c =
    ap (first_of_two (faults.forbidden_by y records d (faults.outcome_at x y records d))) (forbidden_push x y records cs c)
    ∙ both (faults.forbidden_by y records d (faults.outcome_at x y records d)) (faults.forbidden_among x y records cs) _
  where
    both : (a b c : Option AuditFault) → first_of_two a (first_of_two b c) ≡ first_of_two (first_of_two a b) c
    both None b c = refl
    both (Some f) b c = refl

pub forbidden_is : (y : Setting) (records : List (List Logged)) (c : Place) (r index : ℕ) (u : Outcome) → y.decider c.lane ≡ r → length ((audited y records).before c) + 1 ≡ index →
    faults.forbidden_by y records c u ≡ forbidden_with r index u
forbidden_is y records c r index outcomes.Yes own size = refl
forbidden_is y records c r index (outcomes.Guard g) own size = subst (λ k. faults.forbidden_by y records c (outcomes.Guard g) ≡ forbidden_with k index (outcomes.Guard g)) own
    (subst (λ n. faults.forbidden_by y records c (outcomes.Guard g) ≡ forbidden_with (y.decider c.lane) n (outcomes.Guard g)) size refl)
forbidden_is y records c r index (outcomes.Invariant v) own size = subst (λ k. faults.forbidden_by y records c (outcomes.Invariant v) ≡ forbidden_with k index (outcomes.Invariant v)) own
    (subst (λ n. faults.forbidden_by y records c (outcomes.Invariant v) ≡ forbidden_with (y.decider c.lane) n (outcomes.Invariant v)) size refl)
