-- Keys of places, and one look-up more.
use Rattle.std.proofs.Common.{◌≡◌, ◌++◌, ℕ, ◌+◌, ◌<◌, ◌≤◌, zero, suc, Bool, true, false, not, cond, eqb, List, [], ◌∷◌, length, take, drop, get_or, refl, sym, subst, ap, ◌∙◌, inl, inr, Some, None, Option, arith}
use Rattle.std.proofs.lemmas.Bool.{eq-eqb, ne_eqb, cases_order, cases_eq}
use Rattle.std.specs.Ordering.{nat_cmp, is_eq}
use Rattle.std.specs.declared.cmp.Ordering.TheVariants.{Less, Equal, Greater}
use Rattle.std.specs.Cmp.{nat_cmp_is, both_tied}
use Rattle.std.specs.BTreeMap as tree
use Rattle.std.specs.BTreeMap.{BTreeMap, is_at}
use Rattle.ham_syntax.specs.declared.act.Place.{Place}
use Rattle.ham_turns.specs.Words.{same_place}
use Rattle.ham_records.specs.declared.records.Logged.{Logged}
use Rattle.std.specs.List.{range_with_len}
use Rattle.std.specs.Prelude.{◌-◌, count_by, is_some, slice_index, slice_set}
use Rattle.std.proofs.lemmas.List.{get_or-set_other}
use Rattle.std.proofs.lemmas.Grind.{get_or-set_at}
use Rattle.ham_plan.specs.Lists.{In}
use Rattle.ham_syntax.specs.declared.act.Act.{Act}
use Rattle.ham_laws.proofs.Counts.{count_by-cons}
use Rattle.ham_turns.specs.Settings.{Rules, Setting}
use Rattle.ham_turns.specs.Words.{in_lane}
use Rattle.ham_turns.specs.Work.{first_of_two}
use Rattle.ham_audit.specs.declared.fault.AuditFault.{AuditFault}
use Rattle.ham_audit.specs.Faults as faults
use Rattle.ham_audit.specs.Records.{log_of, places, stands, deciding_log}
use Rattle.ham_audit.specs.Indexed.{by_place, first_index, first_act, fault_by_act, kept_or, IsIndex}
use Rattle.ham_audit.proofs.Indexing.{first_push, by_act}

tied : (a b : ℕ) → eqb a b ≡ is_eq (nat_cmp a b)
tied a b = elim (cases_order a b) [
  | inl q ↦ eq-eqb a b q ∙ ap is_eq (nat_cmp_is a b Equal q)
  | inr r ↦ elim r [
    | inl less ↦ ne_eqb a b (λ q. absurd (omega arith)) ∙ ap is_eq (nat_cmp_is a b Less less)
    | inr more ↦ ne_eqb a b (λ q. absurd (omega arith)) ∙ ap is_eq (nat_cmp_is a b Greater more)
  ]
]

same_key : (a c : Place) → same_place a c ≡ is_at (by_place (a.lane, a.number)) (c.lane, c.number)
same_key a c = both_tied (eqb a.lane c.lane) (eqb a.number c.number) (nat_cmp a.lane c.lane) (nat_cmp a.number c.number) (tied a.lane c.lane) (tied a.number c.number)

pub take_push : (log : List Logged) (i : ℕ) (e : Logged) → i < length log → e ≡ get_or log i e → take (i + 1) log ≡ take i log ++ e ∷ []
take_push [] i e h q = absurd (omega arith)
take_push (x ∷ log) zero e h q = ap (λ z. z ∷ []) (sym q)
take_push (x ∷ log) (suc i) e h q =
    let k : suc i + 1 ≡ suc (i + 1) = omega arith in
    ap (λ n. take n (x ∷ log)) k ∙ ap (λ l. x ∷ l) (take_push log i e (omega arith) q)

pub places_push : (before : List Logged) (e : Logged) → places (before ++ e ∷ []) ≡ places before ++ e.place ∷ []
places_push [] e = refl
places_push (d ∷ before) e = ap (λ l. d.place ∷ l) (places_push before e)

pub length_taken : (log : List Logged) (i : ℕ) → i < length log → length (places (take i log)) ≡ i
length_taken [] i h = absurd (omega arith)
length_taken (x ∷ log) zero h = refl
length_taken (x ∷ log) (suc i) h = let n = length_taken log i (omega arith) in omega (arith, n)

pub index_push : (old new : BTreeMap (ℕ × ℕ) ℕ) (log : List Logged) (i : ℕ) (e : Logged) → i < length log → e ≡ get_or log i e → IsIndex old (take i log) →
    ((q : ℕ × ℕ) → tree.get by_place new q ≡ kept_or (tree.get by_place old q) (is_at (by_place (e.place.lane, e.place.number)) q) i) →
    IsIndex new (take (i + 1) log)
index_push old new log i e h at was puts c =
    puts (c.lane, c.number)
    ∙ ap (λ b. kept_or (tree.get by_place old (c.lane, c.number)) b i) (sym (same_key e.place c))
    ∙ ap (λ o. kept_or o (same_place e.place c) i) (was c)
    ∙ ap (λ n. kept_or (first_index c (places (take i log))) (same_place e.place c) n) (sym (length_taken log i h))
    ∙ sym (first_push c e.place (places (take i log)))
    ∙ ap (first_index c) (sym (ap places (take_push log i e h at) ∙ places_push (take i log) e))

pub length_before : (log : List Logged) (i : ℕ) → i < length log → length (take i log) ≡ i
length_before [] i h = absurd (omega arith)
length_before (x ∷ log) zero h = refl
length_before (x ∷ log) (suc i) h = let n = length_before log i (omega arith) in omega (arith, n)

-- the fault of a call whose place may stand where it does
pub fault_here : (x : Rules) (y : Setting) (records : List (List Logged)) (r index : ℕ) (before : List Logged) (e : Logged) (next : Bool) (o : Option Act) →
    faults.has_place x.lane_limit y e ≡ true → stands e.place (places before) ≡ false → length before ≡ index →
    next ≡ faults.is_next y r (faults.lane_count before e.place.lane) e → o ≡ first_act e.place (deciding_log y records e.place) →
    fault_by_act r (index + 1) next e.act o ≡ faults.fault_at x y records r before e
fault_here x y records r index before e next o place new size is_next is_first =
    ap (λ a. fault_by_act r (index + 1) next e.act a) is_first
    ∙ ap (λ b. fault_by_act r (index + 1) b e.act (first_act e.place (deciding_log y records e.place))) is_next
    ∙ ap (λ n. fault_by_act r (n + 1) (faults.is_next y r (faults.lane_count before e.place.lane) e) e.act (first_act e.place (deciding_log y records e.place))) (sym size)
    ∙ by_act y records r (length before + 1) (faults.is_next y r (faults.lane_count before e.place.lane) e) e
    ∙ sym (passes_both (faults.has_place x.lane_limit y e) (stands e.place (places before)) _ _ _ place new)
  where
    passes_both : (a b : Bool) (f g : AuditFault) (rest : Option AuditFault) → a ≡ true → b ≡ false → cond (not a) (Some f) (cond b (Some g) rest) ≡ rest
    passes_both true false f g rest h k = refl
    passes_both true true f g rest h k = absurd (cc)
    passes_both false b f g rest h k = absurd (cc)

-- ---- along a log
pub drop_here : (log : List Logged) (i : ℕ) (e : Logged) → i < length log → e ≡ get_or log i e → drop i log ≡ e ∷ drop (i + 1) log
drop_here [] i e h q = absurd (omega arith)
drop_here (x ∷ log) zero e h q = ap (λ z. z ∷ log) (sym q)
drop_here (x ∷ log) (suc i) e h q =
    let k : suc (i + 1) ≡ suc i + 1 = omega arith in drop_here log i e (omega arith) q ∙ ap (λ n. e ∷ drop n (x ∷ log)) k

-- the fault of the rest of a log is that of its first call, or of what follows
pub along_here : (x : Rules) (y : Setting) (records : List (List Logged)) (r : ℕ) (log : List Logged) (i : ℕ) (e : Logged) → i < length log → e ≡ get_or log i e →
    faults.fault_along x y records r (take i log) (drop i log) ≡
    first_of_two (faults.fault_at x y records r (take i log) e) (faults.fault_along x y records r (take (i + 1) log) (drop (i + 1) log))
along_here x y records r log i e h at =
    ap (faults.fault_along x y records r (take i log)) (drop_here log i e h at)
    ∙ ap (λ l. first_of_two (faults.fault_at x y records r (take i log) e) (faults.fault_along x y records r l (drop (i + 1) log))) (sym (take_push log i e h at))

count_last : (test : Place → Bool) (xs : List Place) (c : Place) → count_by test (xs ++ c ∷ []) ≡ count_by test xs + cond (test c) 1 0
count_last test [] c = let a = count_by-cons test c [] in omega (arith, a)
count_last test (z ∷ xs) c =
    let a = count_by-cons test z (xs ++ c ∷ []) in
    let b = count_by-cons test z xs in
    let h = count_last test xs c in
    omega (arith, a, b, h)

-- one call more in a lane
pub count_push : (log : List Logged) (i : ℕ) (e : Logged) (lane : ℕ) → i < length log → e ≡ get_or log i e →
    faults.lane_count (take (i + 1) log) lane ≡ faults.lane_count (take i log) lane + cond (in_lane lane e.place) 1 0
count_push log i e lane h at =
    ap (λ l. faults.lane_count l lane) (take_push log i e h at) ∙ ap (count_by (in_lane lane)) (places_push (take i log) e) ∙ count_last (in_lane lane) (places (take i log)) e.place

pub counts_push : (counts : List ℕ) (log : List Logged) (i : ℕ) (e : Logged) → i < length log → e ≡ get_or log i e → length counts ≡ 256 → e.place.lane < 256 →
    ((k : ℕ) → k < 256 → slice_index counts k ≡ faults.lane_count (take i log) k) →
    (k : ℕ) → k < 256 → slice_index (slice_set counts e.place.lane (slice_index counts e.place.lane + 1)) k ≡ faults.lane_count (take (i + 1) log) k
counts_push counts log i e h at size low was k less = elim (cases_eq k e.place.lane) [
  | inl q ↦
      get_or-set_at counts e.place.lane k (slice_index counts e.place.lane + 1) 0 q (omega arith)
      ∙ ap (λ n. n + 1) (was e.place.lane low)
      ∙ ap (λ l. faults.lane_count (take i log) l + 1) (sym q)
      ∙ ap (λ b. faults.lane_count (take i log) k + cond b 1 0) (sym (eq-eqb e.place.lane k (sym q)))
      ∙ sym (count_push log i e k h at)
  | inr ne ↦
      get_or-set_other counts e.place.lane k (slice_index counts e.place.lane + 1) 0 ne
      ∙ was k less
      ∙ plus_none (faults.lane_count (take i log) k)
      ∙ ap (λ b. faults.lane_count (take i log) k + cond b 1 0) (sym (ne_eqb e.place.lane k (λ q. ne (sym q))))
      ∙ sym (count_push log i e k h at)
]
  where
    plus_none : (n : ℕ) → n ≡ n + 0
    plus_none n = omega arith

pub few_push : (counts : List ℕ) (lane i : ℕ) → length counts ≡ 256 → lane < 256 → ((k : ℕ) → k < 256 → slice_index counts k ≤ i) →
    (k : ℕ) → k < 256 → slice_index (slice_set counts lane (slice_index counts lane + 1)) k ≤ i + 1
few_push counts lane i size low was k less = elim (cases_eq k lane) [
  | inl q ↦ let a = get_or-set_at counts lane k (slice_index counts lane + 1) 0 q (omega arith) in let b = was lane low in omega (arith, a, b)
  | inr ne ↦ let a = get_or-set_other counts lane k (slice_index counts lane + 1) 0 ne in let b = was k less in omega (arith, a, b)
]

pub in_at : (log : List Logged) (i : ℕ) (e : Logged) → i < length log → e ≡ get_or log i e → In e log
in_at [] i e h q = absurd (omega arith)
in_at (x ∷ log) zero e h q = inl q
in_at (x ∷ log) (suc i) e h q = inr (in_at log i e (omega arith) q)

pub some_first : (a b : Option AuditFault) → is_some a ≡ true → first_of_two a b ≡ a
some_first (Some f) b h = refl
some_first None b h = absurd (cc)

pub none_next : (a b : Option AuditFault) → is_some a ≡ false → first_of_two a b ≡ b
none_next None b h = refl
none_next (Some f) b h = absurd (cc)

module _ (x : Rules) (y : Setting) (records : List (List Logged)) (r : ℕ) (log : List Logged) (is : log ≡ log_of records r) (i : ℕ) (e : Logged) (h : i < length log) (at : e ≡ get_or log i e) (f : Option AuditFault) (here : f ≡ faults.fault_at x y records r (take i (log_of records r)) e) (rest : faults.fault_along x y records r (take i log) (drop i log) ≡ faults.fault_along x y records r [] log) where
  here_too : f ≡ faults.fault_at x y records r (take i log) e
  here_too = here ∙ ap (λ l. faults.fault_at x y records r (take i l) e) (sym is)

  pub stops : is_some f ≡ true → f ≡ faults.fault_along x y records r [] (log_of records r)
  stops t =
      here_too ∙ sym (some_first _ (faults.fault_along x y records r (take (i + 1) log) (drop (i + 1) log)) (subst (λ o. is_some o ≡ true) here_too t))
      ∙ sym (along_here x y records r log i e h at) ∙ rest ∙ ap (faults.fault_along x y records r []) is

  pub goes : is_some f ≡ false → faults.fault_along x y records r (take (i + 1) log) (drop (i + 1) log) ≡ faults.fault_along x y records r [] log
  goes t =
      sym (none_next _ (faults.fault_along x y records r (take (i + 1) log) (drop (i + 1) log)) (subst (λ o. is_some o ≡ false) here_too t))
      ∙ sym (along_here x y records r log i e h at) ∙ rest

-- ---- over replicas
pub among_here : (test : ℕ → Option AuditFault) (r n : ℕ) → r ≤ n →
    faults.first_among test (range_with_len r (n + 1 - r)) ≡ first_of_two (test r) (faults.first_among test (range_with_len (r + 1) (n + 1 - (r + 1))))
among_here test r n h =
    let k : n + 1 - r ≡ suc (n + 1 - (r + 1)) = omega arith in ap (λ m. faults.first_among test (range_with_len r m)) k

pub goes_past : (test : ℕ → Option AuditFault) (r n : ℕ) (f : Option AuditFault) → r ≤ n → f ≡ test r → is_some f ≡ false →
    faults.first_among test (range_with_len (r + 1) (n + 1 - (r + 1))) ≡ faults.first_among test (range_with_len r (n + 1 - r))
goes_past test r n f h q t =
    sym (none_next (test r) (faults.first_among test (range_with_len (r + 1) (n + 1 - (r + 1)))) (subst (λ o. is_some o ≡ false) q t)) ∙ sym (among_here test r n h)

pub stops_at : (test : ℕ → Option AuditFault) (r n : ℕ) (f : Option AuditFault) → r ≤ n → f ≡ test r → is_some f ≡ true → f ≡ faults.first_among test (range_with_len r (n + 1 - r))
stops_at test r n f h q t =
    q ∙ sym (some_first (test r) (faults.first_among test (range_with_len (r + 1) (n + 1 - (r + 1)))) (subst (λ o. is_some o ≡ true) q t)) ∙ sym (among_here test r n h)
