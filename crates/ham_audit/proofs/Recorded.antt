-- The logs of a run, as records: what is read off them is what the run's execution has.
use Rattle.std.proofs.Common.{◌≡◌, ◌++◌, ℕ, ◌+◌, ◌<◌, zero, suc, false, List, [], ◌∷◌, map, length, refl, sym, subst, ap, ◌∙◌, inl, inr, Some, None, Option, arith}
use Rattle.std.proofs.lemmas.Bool.{true≢false}
use Rattle.std.proofs.lemmas.List.{append_assoc}
use Rattle.std.specs.List.{range_with_len}
use Rattle.std.specs.Prelude.{slice_get, IsTrue}
use Rattle.ham_syntax.specs.declared.act.Place.{Place}
use Rattle.ham_syntax.specs.declared.act.Act.{Act}
use Rattle.ham_plan.specs.Lists.{In, Within, IsOnceEach}
use Rattle.ham_laws.specs.Executions.{IsInOrder, IsWellCoordinated}
use Rattle.ham_plan.proofs.Lists.{true_or_false, in_front, in_back, in_place}
use Rattle.ham_laws.proofs.Bridge.{calls_after}
use Rattle.ham_laws.proofs.Counts.{distinct}
use Rattle.ham_turns.specs.Settings.{Rules, Setting, IsReplica, meaning_by}
use Rattle.ham_turns.specs.Words.{same_place}
use Rattle.ham_runs.specs.Facts.{constraints}
use Rattle.ham_runs.specs.Facts.{IsGiven}
use Rattle.ham_runs.specs.Runs as runs
use Rattle.ham_runs.specs.Runs.{Note, Decision, execution, decisions, IsRun}
use Rattle.ham_runs.proofs.Decisions.{same_place_refl, same_place_true, get_in, found}
use Rattle.ham_runs.proofs.Links.{RunKept}
use Rattle.ham_runs.proofs.Steps.{run_kept}
use Rattle.ham_records.specs.declared.records.Logged.{Logged}
use Rattle.ham_audit.specs.Records.{log_of, or_empty, replicas, places, every_place, front_of, act_at, deciding_log}
use Rattle.ham_audit.specs.Claims.{logs_of_run}
use Rattle.ham_audit.proofs.Standing.{replica_or_empty}
use Rattle.ham_audit.proofs.Soundness.{range_low, range_high}

-- ---- lists by number
slice_mapped : {X : Type 0} (f : ℕ → X) (a n k : ℕ) → k < n → slice_get (map f (range_with_len a n)) k ≡ Some (f (a + k))
slice_mapped f a zero k h = absurd (omega arith)
slice_mapped f a (suc n) zero h = let q : a ≡ a + 0 = omega arith in ap (λ z. Some (f z)) q
slice_mapped f a (suc n) (suc k) h = let q : (a + 1) + k ≡ a + suc k = omega arith in slice_mapped f (a + 1) n k (omega arith) ∙ ap (λ z. Some (f z)) q

length_mapped : {X : Type 0} (f : ℕ → X) (a n : ℕ) → length (map f (range_with_len a n)) ≡ n
length_mapped f a zero = refl
length_mapped f a (suc n) = let h = length_mapped f (a + 1) n in omega (arith, h)

in_every : (records : List (List Logged)) (log : List Logged) (c : Place) → In log records → In c (places log) → In c (every_place records)
in_every [] log c k h = absurd k
in_every (l ∷ rest) log c (inl q) h = in_front c (places l) (every_place rest) (subst (λ z. In c (places z)) q h)
in_every (l ∷ rest) log c (inr k) h = in_back c (places l) (every_place rest) (in_every rest log c k h)

pub every_has : (records : List (List Logged)) (r : ℕ) (c : Place) → In c (places (log_of records r)) → In c (every_place records)
every_has records zero c h = absurd h
every_has records (suc n) c h = told (slice_get records n) refl h
  where
    told : (o : Option (List Logged)) → slice_get records n ≡ o → In c (places (or_empty o)) → In c (every_place records)
    told None q k = absurd k
    told (Some log) q k = in_every records log c (get_in records n log q) k

-- ---- what precedes a place
pub front_split : (c : Place) (before rest : List Place) → (In c before → ⊥) → front_of c (before ++ c ∷ rest) ≡ before
front_split c [] rest new = rw (same_place_refl c) refl
front_split c (z ∷ before) rest new = elim (true_or_false (same_place z c)) [
  | inl t ↦ absurd (new (inl (sym (same_place_true z c t))))
  | inr f ↦ rw f (ap (λ l. z ∷ l) (front_split c before rest (λ k. new (inr k))))
]

once_split : (c : Place) (before rest : List Place) → IsOnceEach (before ++ c ∷ rest) → In c before → ⊥
once_split c [] rest h k = k
once_split c (z ∷ before) rest h (inl q) = h.0 (subst (λ v. In v (before ++ c ∷ rest)) q (in_place c before rest))
once_split c (z ∷ before) rest h (inr k) = once_split c before rest h.1 k

pub in_order_same : (f g : Place → List Place) (earlier xs : List Place) → ((c : Place) → In c xs → f c ≡ g c) → IsInOrder f earlier xs → IsInOrder g earlier xs
in_order_same f g earlier [] same h = tt
in_order_same f g earlier (c ∷ xs) same h =
    (h.0, subst (λ l. Within l earlier) (same c (inl refl)) h.1, in_order_same f g (c ∷ earlier) xs (λ z k. same z (inr k)) h.2)

abbrev pub entry_of : List Note → Place → Logged
entry_of notes c = record { place = c; act = (execution notes).act c }

pub places_entry : (notes : List Note) (xs : List Place) → places (map (entry_of notes) xs) ≡ xs
places_entry notes [] = refl
places_entry notes (c ∷ xs) = ap (λ l. c ∷ l) (places_entry notes xs)

act_entry : (notes : List Note) (xs : List Place) (c : Place) → In c xs → act_at c (map (entry_of notes) xs) ≡ (execution notes).act c
act_entry notes [] c k = absurd k
act_entry notes (z ∷ xs) c k = elim (true_or_false (same_place z c)) [
  | inl t ↦ rw t (ap (λ v. (execution notes).act v) (same_place_true z c t))
  | inr f ↦
      let j : In c xs = elim k [ inl q ↦ absurd (true≢false (sym (same_place_refl c) ∙ subst (λ v. same_place v c ≡ false) (sym q) f)) | inr i ↦ i ] in
      rw f (act_entry notes xs c j)
]

module _ (x : Rules) (y : Setting) (given : IsGiven x y) (notes : List Note) (run : IsRun x y notes) where
  pub kept : RunKept x y notes
  kept = run_kept x y given.setting given.sound given.laws notes run

  pub well : IsWellCoordinated (meaning_by x) (constraints y) (execution notes)
  well = kept.kept.well

  abbrev pub records : List (List Logged)
  records = logs_of_run y notes

  pub size : length records ≡ y.replicas
  size = length_mapped (λ r. map (entry_of notes) (runs.log_of notes r)) 1 y.replicas

  pub log_is : (r : ℕ) → IsReplica y r → log_of records r ≡ map (entry_of notes) (runs.log_of notes r)
  log_is zero here = absurd (omega arith)
  log_is (suc k) here =
      let q : 1 + k ≡ suc k = omega arith in
      ap or_empty (slice_mapped (λ r. map (entry_of notes) (runs.log_of notes r)) 1 y.replicas k (omega arith))
      ∙ ap (λ r. map (entry_of notes) (runs.log_of notes r)) q

  pub places_is : (r : ℕ) → IsReplica y r → places (log_of records r) ≡ runs.log_of notes r
  places_is r here = ap places (log_is r here) ∙ places_entry notes (runs.log_of notes r)

  pub replica_is : (r : ℕ) → In r (replicas records) → IsReplica y r
  replica_is r k =
      let low = range_low r 1 (length records) k in
      let high = range_high r 1 (length records) k in
      (omega arith, omega (arith, size))

  pub logged_at : (r : ℕ) (c : Place) → In c (places (log_of records r)) → IsReplica y r × In c (runs.log_of notes r)
  logged_at r c k = elim (replica_or_empty records r) [
    | inl j ↦ let here = replica_is r j in (here, subst (λ l. In c l) (places_is r here) k)
    | inr q ↦ absurd (subst (λ l. In c (places l)) q k)
  ]

  -- what the run kept of a decided call
  pub record IsOwn (c : Place) : Type 0 where
    pub replica : IsReplica y (y.decider c.lane)
    pub decider : (execution notes).decider c ≡ y.decider c.lane
    pub lane : y.lane ((execution notes).act c).method (y.decider c.lane) ≡ c.lane
    pub fits : IsTrue (x.fits ((execution notes).act c))

  pub own : (c : Place) → In c (execution notes).decided → IsOwn c
  own c k =
      let w = found (decisions notes) c k in
      let o = kept.kept.own w.decision w.stands in
      let lane : w.decision.call.lane ≡ c.lane = ap (λ (z : Place). z.lane) w.place in
      let by : y.decider c.lane ≡ w.decision.by = subst (λ l. y.decider l ≡ w.decision.by) lane o.decides in
      record {
        replica = subst (λ r. IsReplica y r) (sym by) o.replica;
        decider = w.by ∙ sym by;
        lane = subst (λ (a : Act). y.lane a.method (y.decider c.lane) ≡ c.lane) (sym w.act)
            (subst (λ r. y.lane w.decision.call.act.method r ≡ c.lane) (sym by) (o.lane ∙ lane));
        fits = subst (λ a. IsTrue (x.fits a)) (sym w.act) o.fits;
      }

  pub decided_in : (r : ℕ) (c : Place) → In c (runs.log_of notes r) → In c (execution notes).decided
  decided_in r c k = calls_after (meaning_by x) (constraints y) (execution notes) [] (runs.log_of notes r) (well.logs_closed r) c k

  pub log_once : (r : ℕ) → IsOnceEach (runs.log_of notes r)
  log_once r = distinct (meaning_by x) (constraints y) (execution notes) [] (runs.log_of notes r) (well.logs_closed r)

  -- the log of the deciding replica: what it had logged, the call, and the rest
  pub there : (c : Place) → In c (execution notes).decided → (rest : List Place) × (runs.log_of notes (y.decider c.lane) ≡ (execution notes).before c ++ c ∷ rest)
  there c k =
      let w = well.decided_there c k in
      (w.0, subst (λ r. runs.log_of notes r ≡ ((execution notes).before c ++ c ∷ []) ++ w.0) (own c k).decider w.1 ∙ append_assoc ((execution notes).before c) (c ∷ []) w.0)

  pub own_logged : (c : Place) → In c (execution notes).decided → In c (runs.log_of notes (y.decider c.lane))
  own_logged c k = let w = there c k in subst (λ l. In c l) (sym w.1) (in_place c ((execution notes).before c) w.0)

  pub deciding_is : (c : Place) → In c (execution notes).decided → places (deciding_log y records c) ≡ runs.log_of notes (y.decider c.lane)
  deciding_is c k = places_is (y.decider c.lane) (own c k).replica

  -- a call that stands in a log is preceded there by what stands before it
  pub preceded : (r : ℕ) (c : Place) (before rest : List Place) → runs.log_of notes r ≡ before ++ c ∷ rest → front_of c (runs.log_of notes r) ≡ before
  preceded r c before rest q =
      ap (front_of c) q ∙ front_split c before rest (once_split c before rest (subst (λ l. IsOnceEach l) q (log_once r)))

  pub before_is : (c : Place) → In c (execution notes).decided → front_of c (places (deciding_log y records c)) ≡ (execution notes).before c
  before_is c k = let w = there c k in ap (front_of c) (deciding_is c k) ∙ preceded (y.decider c.lane) c ((execution notes).before c) w.0 w.1

  pub act_is : (c : Place) → In c (execution notes).decided → act_at c (deciding_log y records c) ≡ (execution notes).act c
  act_is c k = ap (act_at c) (log_is (y.decider c.lane) (own c k).replica) ∙ act_entry notes (runs.log_of notes (y.decider c.lane)) c (own_logged c k)
