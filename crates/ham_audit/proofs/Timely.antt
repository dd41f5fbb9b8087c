-- Needs that stand in time.
use Rattle.std.proofs.Common.{◌≡◌, ◌⊎◌, ◌++◌, ℕ, ◌+◌, ◌-◌, ◌<◌, ◌≤◌, zero, suc, Bool, true, false, not, cond, List, [], ◌∷◌, length, length-set, map, take, drop, get_or, refl, sym, subst, ap, ◌∙◌, inl, inr, Some, None, Option, arith}
use Rattle.std.specs.Prelude.{slice_get, slice_index, slice_set, is_some, All, ◌&&◌, ◌||◌, ◌==◌}
use Rattle.std.proofs.lemmas.Bool.{true≢false, cases_eq, cases_lt, eqb-true, or_cases, cond-true, cond-false}
use Rattle.std.proofs.lemmas.List.{get_or-set_other, get_or_default, get_or_past}
use Rattle.std.proofs.lemmas.Option.{slice_get_within}
use Rattle.std.proofs.lemmas.Grind.{get_or-set_at}
use Rattle.ham_syntax.specs.declared.act.Act.{Act}
use Rattle.ham_syntax.specs.declared.act.Place.{Place}
use Rattle.ham_laws.specs.Executions.{Execution}
use Rattle.ham_plan.specs.Lists.{In}
use Rattle.ham_plan.specs.Plans.{Plan}
use Rattle.ham_plan.proofs.Lists.{true_or_false}
use Rattle.ham_turns.specs.Settings.{Setting, IsReplica, setting_of}
use Rattle.ham_turns.specs.Words.{same_place}
use Rattle.ham_turns.specs.Work.{first_of_two}
use Rattle.ham_runs.proofs.Decisions.{same_place_true}
use Rattle.ham_site.specs.Sites.{Site, IsSite, rules_at, setting_at}
use Rattle.ham_audit.specs.declared.fault.AuditFault.{AuditFault}
use Rattle.ham_records.specs.declared.records.Logged.{Logged}
use Rattle.ham_audit.specs.Faults as faults
use Rattle.ham_audit.specs.Indexed.{first_index}
use Rattle.ham_audit.specs.Order.{audited}
use Rattle.ham_audit.specs.Records.{log_of, places, stands, front_of, deciding_log, act_at}
use Rattle.ham_audit.specs.Passing.{IsUnder}
use Rattle.ham_audit.specs.Lateness.{slot_at, IsIn, Reaches, Covers, HasFirst, IsNeeding, need_between, counted, late_here, late_or_none}
use Rattle.ham_audit.proofs.Indexing.{act_first, stands_first, one_less}
use Rattle.ham_audit.proofs.Choosing.{front_first, places_taken, at_call, at_inside}
use Rattle.ham_audit.proofs.Gone.{stands_front, stands_last}
use Rattle.ham_audit.proofs.Looking.{take_push, places_push, length_taken, drop_here, some_first, none_next, in_at}
use Rattle.ham_audit.proofs.Standing.{entry_at}
use Rattle.ham_audit.proofs.Soundness.{acts_same}
use Rattle.ham_audit.proofs.Reaching.{method_in, own_lane, number_some}
use Rattle.ham_audit.proofs.Under.{placed, act_in, lane_in}

-- ---- one need after the other

passed_by : {X : Type 0} (a b : Bool) (f : X) (rest : Option X) → (a ≡ true → b ≡ true) → cond (a && not b) (Some f) rest ≡ rest
passed_by true true f rest h = refl
passed_by true false f rest h = absurd (true≢false (sym (h refl)))
passed_by false b f rest h = refl

pub none_late : (y : Setting) (e : Execution Place Act) (c : Place) (seen ns : List Place) →
    ((n : Place) → In n ns → faults.is_need y e c n ≡ true → stands n seen ≡ true) → faults.late_need y e c seen ns ≡ None
none_late y e c seen [] h = refl
none_late y e c seen (n ∷ ns) h =
    passed_by (faults.is_need y e c n) (stands n seen) n (faults.late_need y e c seen ns) (h n (inl refl))
    ∙ none_late y e c seen ns (λ z k. h z (inr k))

in_taken : (log : List Logged) (i : ℕ) (e : Logged) → In e (take i log) → In e log
in_taken log zero e k = absurd k
in_taken [] (suc i) e k = k
in_taken (x ∷ log) (suc i) e (inl q) = inl q
in_taken (x ∷ log) (suc i) e (inr k) = inr (in_taken log i e k)

got_in : (log : List Logged) (i : ℕ) (e : Logged) → slice_get log i ≡ Some e → In e log
got_in [] zero e h = absurd (cc)
got_in [] (suc i) e h = absurd (cc)
got_in (x ∷ log) zero e h = inl (cc)
got_in (x ∷ log) (suc i) e h = inr (got_in log i e h)

pub all_in : (P : Place → Type 0) (xs : List Place) → All P xs → (p : Place) → In p xs → P p
all_in P [] all p k = absurd k
all_in P (x ∷ xs) all p (inl q) = subst P (sym q) (all 0 x (omega arith))
all_in P (x ∷ xs) all p (inr k) = all_in P xs (λ i d h. all (suc i) d (omega arith)) p k

module _ (site : Site) (records : List (List Logged)) (under : IsUnder site records) (needing : IsNeeding site) (is_site : IsSite site)
    (r : ℕ) (e : Logged) (there : In e (log_of records r)) (at : ℕ) (first : first_index e.place (places (deciding_log (setting_at site) records e.place)) ≡ Some at) where
  abbrev pub decided_by : ℕ
  decided_by = (setting_at site).decider e.place.lane

  pub before_is : (audited (setting_at site) records).before e.place ≡ places (take at (log_of records decided_by))
  before_is = front_first e.place (places (log_of records decided_by)) at first ∙ places_taken (log_of records decided_by) at

  -- the call as the replica that decided it has it
  pub decided_entry : (d : Logged) × (slice_get (log_of records decided_by) at ≡ Some d) × (e.act ≡ d.act)
  decided_entry =
      let w = act_first e.place (log_of records decided_by) at first in
      (w.0, w.1, acts_same e.act (act_at e.place (log_of records decided_by)) (placed site records under r e there).1.act ∙ w.2)

  replica_of : (q : ℕ) (m : Logged) → In m (log_of records q) → IsReplica (setting_at site) ((setting_at site).decider m.place.lane)
  replica_of q m k = is_site.tabled.decider_exists m.place.lane (lane_in site records under q m k)

  module _ (m : Logged) (k : In m (log_of records decided_by)) where
    -- a need is of the call's lane, or of a slot that its method needs
    needed_by : ((m.place.lane == e.place.lane) || ((setting_at site).conflict m.act.method e.act.method || (setting_at site).depends e.act.method m.act.method)) ≡ true →
        (m.place.lane ≡ e.place.lane) ⊎ In (slot_at (setting_at site) m) ((setting_at site).needs e.act.method)
    needed_by t = elim (or_cases (m.place.lane == e.place.lane) _ t) [
      | inl same ↦ inl (eqb-true m.place.lane e.place.lane same)
      | inr other ↦ elim (or_cases ((setting_at site).conflict m.act.method e.act.method) ((setting_at site).depends e.act.method m.act.method) other) [
        | inl conflicts ↦ inl (sym (own_lane site records under needing decided_by m k)
            ∙ needing.share m.act.method e.act.method ((setting_at site).decider m.place.lane) ((setting_at site).decider e.place.lane) (replica_of decided_by m k) (replica_of r e there) conflicts
            ∙ own_lane site records under needing r e there)
        | inr depends ↦ inr (needing.needed e.act.method m.act.method ((setting_at site).decider m.place.lane) (replica_of decided_by m k) depends)
      ]
    ]

    is_need_by : faults.is_need (setting_at site) (audited (setting_at site) records) e.place m.place ≡ true →
        (m.place.lane ≡ e.place.lane) ⊎ In (slot_at (setting_at site) m) ((setting_at site).needs e.act.method)
    is_need_by t =
        needed_by (subst (λ (a : Act). ((m.place.lane == e.place.lane) || ((setting_at site).conflict m.act.method a.method || (setting_at site).depends a.method m.act.method)) ≡ true) (act_in site records under r e there)
        (subst (λ (a : Act). ((m.place.lane == e.place.lane) || ((setting_at site).conflict a.method ((audited (setting_at site) records).act e.place).method || (setting_at site).depends ((audited (setting_at site) records).act e.place).method a.method)) ≡ true)
        (act_in site records under decided_by m k) t))

  -- none of the call's needs is late, where the first calls of each lane stand as far as the needs reach
  module _ (reached : List Place) (d : Logged) (same : e.act ≡ d.act) (lane : d.place ≡ e.place) (covers : Covers (setting_at site) (take at (log_of records decided_by)) d reached)
      (counts : List ℕ) (within : All (λ p. p.number ≤ slice_index counts p.lane) reached) (seen : List Place) (firsts : HasFirst counts seen) where
    stood : (m : Logged) → In m (take at (log_of records decided_by)) → faults.is_need (setting_at site) (audited (setting_at site) records) e.place m.place ≡ true → stands m.place seen ≡ true
    stood m k t =
        let j = in_taken (log_of records decided_by) at m k in
        let by : (m.place.lane ≡ d.place.lane) ⊎ In (slot_at (setting_at site) m) ((setting_at site).needs d.act.method) =
        subst (λ (a : Act). (m.place.lane ≡ d.place.lane) ⊎ In (slot_at (setting_at site) m) ((setting_at site).needs a.method)) same
        (subst (λ (p : Place). (m.place.lane ≡ p.lane) ⊎ In (slot_at (setting_at site) m) ((setting_at site).needs e.act.method)) (sym lane) (is_need_by m j t)) in
        let reach = covers m k by in
        let far = all_in (λ p. p.number ≤ slice_index counts p.lane) reached within reach.place reach.one in
        let far_here : reach.place.number ≤ slice_index counts m.place.lane = subst (λ l. reach.place.number ≤ slice_index counts l) reach.lane far in
        let up = reach.far in
        firsts m.place.lane m.place.number (above m j) (omega (arith, far_here, up))
      where
        above : (m : Logged) → In m (log_of records decided_by) → 0 < m.place.number
        above m j = number_some (rules_at site).lane_limit (setting_at site) m (placed site records under decided_by m j).1.place

    pub all_timely : faults.late_need (setting_at site) (audited (setting_at site) records) e.place seen ((audited (setting_at site) records).before e.place) ≡ None
    all_timely =
        ap (faults.late_need (setting_at site) (audited (setting_at site) records) e.place seen) before_is
        ∙ none_late (setting_at site) (audited (setting_at site) records) e.place seen (places (take at (log_of records decided_by)))
        (λ n k t. let w = entry_at n (take at (log_of records decided_by)) k in
        subst (λ (z : Place). stands z seen ≡ true) w.2 (stood w.0 w.1 (subst (λ (z : Place). faults.is_need (setting_at site) (audited (setting_at site) records) e.place z ≡ true) (sym w.2) t)))

-- ---- the place at a first index

none_some : (j : ℕ) → None ≡ Some j → ⊥
none_some j h = cc

some_number : (a b : ℕ) → Some a ≡ Some b → a ≡ b
some_number a b h = cc

some_call : (a b : Logged) → Some a ≡ Some b → a ≡ b
some_call a b h = cc

pub first_place : (c : Place) (log : List Logged) (j : ℕ) (d : Logged) → first_index c (places log) ≡ Some j → slice_get log j ≡ Some d → d.place ≡ c
first_place c [] j d h g = absurd (none_some j h)
first_place c (x ∷ log) j d h g = elim (true_or_false (same_place x.place c)) [
  | inl t ↦
      let q : 0 ≡ j = some_number 0 j (rw t at h) in
      ap (λ (z : Logged). z.place) (sym (some_call x d (subst (λ k. slice_get (x ∷ log) k ≡ Some d) (sym q) g))) ∙ same_place_true x.place c t
  | inr f ↦
      let w = one_less (first_index c (places log)) j (rw f at h) in
      first_place c log w.0 d w.1 (subst (λ k. slice_get (x ∷ log) k ≡ Some d) w.2 g)
]

-- ---- one call more among those seen

pub firsts_none : (counts : List ℕ) → length counts ≡ 256 → ((k : ℕ) → k < 256 → slice_index counts k ≡ 0) → HasFirst counts []
firsts_none counts size none l k some le = elim (cases_lt l 256) [
  | inl h ↦ let z = none l h in absurd (omega (arith, some, le, z))
  | inr h ↦ let z = get_or_past counts l 0 (omega arith) in absurd (omega (arith, some, le, z))
]

pub firsts_push : (counts : List ℕ) (seen : List Place) (c : Place) → c.lane < length counts → HasFirst counts seen → HasFirst (counted counts c) (seen ++ c ∷ [])
firsts_push counts seen c h firsts = elim (true_or_false (slice_index counts c.lane == (c.number - 1))) [
  | inl t ↦ subst (λ l. HasFirst l (seen ++ c ∷ [])) (sym (cond-true (slice_index counts c.lane == (c.number - 1)) (slice_set counts c.lane c.number) counts t))
      (set (eqb-true (slice_index counts c.lane) (c.number - 1) t))
  | inr f ↦ subst (λ l. HasFirst l (seen ++ c ∷ [])) (sym (cond-false (slice_index counts c.lane == (c.number - 1)) (slice_set counts c.lane c.number) counts f))
      (λ l k some le. stands_front (record { lane = l; number = k }) seen (c ∷ []) (firsts l k some le))
]
  where
    here : slice_index counts c.lane ≡ c.number - 1 → (l k : ℕ) → 0 < k → k ≤ c.number → (l ≡ c.lane) → (k ≡ c.number) ⊎ (k ≡ c.number → ⊥) →
        stands (record { lane = l; number = k }) (seen ++ c ∷ []) ≡ true
    here q l k some le is (inl last) = subst (λ n. stands (record { lane = l; number = n }) (seen ++ c ∷ []) ≡ true) (sym last)
        (subst (λ m. stands (record { lane = m; number = c.number }) (seen ++ c ∷ []) ≡ true) (sym is) (stands_last seen c))
    here q l k some le is (inr ne) =
        let less : k ≤ slice_index counts c.lane = omega arith in
        stands_front (record { lane = l; number = k }) seen (c ∷ []) (firsts l k some (subst (λ m. k ≤ slice_index counts m) (sym is) less))

    at : slice_index counts c.lane ≡ c.number - 1 → (l k : ℕ) → 0 < k → k ≤ slice_index (slice_set counts c.lane c.number) l → (l ≡ c.lane) ⊎ (l ≡ c.lane → ⊥) →
        stands (record { lane = l; number = k }) (seen ++ c ∷ []) ≡ true
    at q l k some le (inl is) =
        let a = get_or-set_at counts c.lane l c.number 0 is h in
        here q l k some (omega (arith, a, le)) is (cases_eq k c.number)
    at q l k some le (inr ne) =
        let a = get_or-set_other counts c.lane l c.number 0 ne in
        stands_front (record { lane = l; number = k }) seen (c ∷ []) (firsts l k some (omega (arith, a, le)))

    set : slice_index counts c.lane ≡ c.number - 1 → HasFirst (slice_set counts c.lane c.number) (seen ++ c ∷ [])
    set q l k some le = at q l k some le (cases_eq l c.lane)

-- ---- one call more of those before

pub need_is : (site : Site) (records : List (List Logged)) → IsUnder site records → (r q : ℕ) (e n : Logged) → In e (log_of records r) → In n (log_of records q) →
    need_between site.plan e n ≡ faults.is_need (setting_at site) (audited (setting_at site) records) e.place n.place
unfolding setting_of
need_is site records under r q e n k j =
    ap (λ (a : Act). need_between site.plan (record { place = e.place; act = a }) n) (sym (act_in site records under r e k))
    ∙ ap (λ (a : Act). need_between site.plan (record { place = e.place; act = (audited (setting_at site) records).act e.place }) (record { place = n.place; act = a })) (sym (act_in site records under q n j))

module _ (y : Setting) (a : Execution Place Act) (c : Place) (seen : List Place) (front : List Logged) (i : ℕ) (n : Logged) (h : i < length front) (at : n ≡ get_or front i n)
    (rest : faults.late_need y a c seen (places (drop i front)) ≡ faults.late_need y a c seen (places front)) where
  here : faults.late_need y a c seen (places (drop i front)) ≡ cond (faults.is_need y a c n.place && not (stands n.place seen)) (Some n.place) (faults.late_need y a c seen (places (drop (i + 1) front)))
  here = ap (λ l. faults.late_need y a c seen (places l)) (drop_here front i n h at)

  pub finds_late : faults.is_need y a c n.place ≡ true → stands n.place seen ≡ false → Some n.place ≡ faults.late_need y a c seen (places front)
  finds_late t f = sym (both (faults.is_need y a c n.place) (stands n.place seen) (faults.late_need y a c seen (places (drop (i + 1) front))) t f) ∙ sym here ∙ rest
    where
      both : (p q : Bool) (others : Option Place) → p ≡ true → q ≡ false → cond (p && not q) (Some n.place) others ≡ Some n.place
      both true false others t f = refl
      both true true others t f = absurd (true≢false f)
      both false q others t f = absurd (true≢false (sym t))

  pub goes_late : (faults.is_need y a c n.place ≡ true → stands n.place seen ≡ true) → faults.late_need y a c seen (places (drop (i + 1) front)) ≡ faults.late_need y a c seen (places front)
  goes_late t = sym (passed_by (faults.is_need y a c n.place) (stands n.place seen) n.place (faults.late_need y a c seen (places (drop (i + 1) front))) t) ∙ sym here ∙ rest

-- ---- along a log

abbrev pub late_from : Setting → List (List Logged) → ℕ → ℕ → Option AuditFault
late_from y records r k = faults.late_along y records r (places (take k (log_of records r))) (places (drop k (log_of records r)))

module _ (y : Setting) (records : List (List Logged)) (r i : ℕ) (e : Logged) (got : slice_get (log_of records r) i ≡ Some e) where
  along : late_from y records r i ≡ first_of_two (late_here y records r i) (late_from y records r (i + 1))
  along =
      let log = log_of records r in
      let w = at_call log i e got in
      let late = λ (n : ℕ) (l : List Place). first_of_two
      (faults.late_by r (n + 1) (faults.late_need y (audited y records) e.place (places (take i log)) ((audited y records).before e.place)))
      (faults.late_along y records r l (places (drop (i + 1) log))) in
      ap (λ l. faults.late_along y records r (places (take i log)) (places l)) (drop_here log i e w.0 w.1)
      ∙ ap (λ n. late n (places (take i log) ++ e.place ∷ [])) (length_taken log i w.0)
      ∙ ap (late i) (sym (ap places (take_push log i e w.0 w.1) ∙ places_push (take i log) e))
      ∙ ap (λ o. first_of_two (late_or_none y records r i o) (late_from y records r (i + 1))) (sym got)

  module _ (f : Option AuditFault) (is : f ≡ late_here y records r i) (rest : late_from y records r i ≡ faults.late_along y records r [] (places (log_of records r))) where
    pub late_stops : is_some f ≡ true → f ≡ faults.late_along y records r [] (places (log_of records r))
    late_stops t = is ∙ sym (some_first (late_here y records r i) (late_from y records r (i + 1)) (subst (λ o. is_some o ≡ true) is t)) ∙ sym along ∙ rest

    pub late_goes : is_some f ≡ false → late_from y records r (i + 1) ≡ faults.late_along y records r [] (places (log_of records r))
    late_goes t = sym (none_next (late_here y records r i) (late_from y records r (i + 1)) (subst (λ o. is_some o ≡ false) is t)) ∙ sym along ∙ rest

-- ---- where a call was decided

pub call_there : (records : List (List Logged)) (r i : ℕ) (e : Logged) (log : List Logged) → log ≡ log_of records r → i < length log → e ≡ get_or log i e →
    slice_get (log_of records r) i ≡ Some e
call_there records r i e log is h at = subst (λ (l : List Logged). slice_get l i ≡ Some e) is (at_inside log i e h at)

pub got_within : (log : List Logged) (i : ℕ) (e : Logged) → slice_get log i ≡ Some e → In e log
got_within log i e h = got_in log i e h

module _ (site : Site) (records : List (List Logged)) (under : IsUnder site records) (r : ℕ) (e : Logged) (there : In e (log_of records r)) where
  is_found : is_some (first_index e.place (places (deciding_log (setting_at site) records e.place))) ≡ true
  is_found = sym (stands_first e.place (places (deciding_log (setting_at site) records e.place))) ∙ (placed site records under r e there).1.decided

  pub not_found : first_index e.place (places (deciding_log (setting_at site) records e.place)) ≡ None → ⊥
  not_found q = true≢false (sym is_found ∙ ap is_some q)

pub first_within : (c : Place) (log : List Logged) (at : ℕ) → first_index c (places log) ≡ Some at → at < length log
first_within c log at first = let w = act_first c log at first in slice_get_within log at w.0 w.1

pub all_within : (records : List (List Logged)) (r n : ℕ) → All (IsIn records) (take n (log_of records r))
all_within records r n k d h =
    (r, in_taken (log_of records r) n (get_or (take n (log_of records r)) k d) (in_at (take n (log_of records r)) k (get_or (take n (log_of records r)) k d) h (get_or_default (take n (log_of records r)) k d (get_or (take n (log_of records r)) k d) h)))

pub in_all : (records : List (List Logged)) (front : List Logged) → All (IsIn records) front → (i : ℕ) (e : Logged) → i < length front → e ≡ get_or front i e → IsIn records e
in_all records front all i e h at = subst (IsIn records) (sym at) (all i e h)

-- the code's test of needs, by the plan
pub needed : (site : Site) (plan : Plan) (records : List (List Logged)) → IsUnder site records → plan ≡ site.plan → (e n : Logged) → IsIn records e → IsIn records n →
    need_between plan e n ≡ faults.is_need (setting_at site) (audited (setting_at site) records) e.place n.place
needed site plan records under is e n k j = ap (λ p. need_between p e n) is ∙ need_is site records under k.0 j.0 e n k.1 j.1

pub method_of : (site : Site) (plan : Plan) (records : List (List Logged)) → IsUnder site records → IsNeeding site → plan ≡ site.plan → (e : Logged) → IsIn records e → e.act.method < plan.methods
unfolding setting_of
method_of site plan records under needing is e k = subst (λ (p : Plan). e.act.method < p.methods) (sym is) (method_in site records under needing k.0 e k.1)

pub counted_size : (counts : List ℕ) (c : Place) → length (counted counts c) ≡ length counts
counted_size counts c = elim (true_or_false (slice_index counts c.lane == (c.number - 1))) [
  | inl t ↦ ap length (cond-true (slice_index counts c.lane == (c.number - 1)) (slice_set counts c.lane c.number) counts t) ∙ length-set counts c.lane c.number
  | inr f ↦ ap length (cond-false (slice_index counts c.lane == (c.number - 1)) (slice_set counts c.lane c.number) counts f)
]

pub firsts_next : (counts : List ℕ) (log : List Logged) (i : ℕ) (e : Logged) → slice_get log i ≡ Some e → e.place.lane < length counts → HasFirst counts (places (take i log)) →
    HasFirst (counted counts e.place) (places (take (i + 1) log))
firsts_next counts log i e got low firsts =
    let w = at_call log i e got in
    subst (HasFirst (counted counts e.place)) (sym (ap places (take_push log i e w.0 w.1) ∙ places_push (take i log) e)) (firsts_push counts (places (take i log)) e.place low firsts)
