-- Where one replica decides everything, every log is a prefix of its log.
use Rattle.std.proofs.Common.{◌≡◌, ◌⊎◌, ◌++◌, ℕ, zero, suc, ◌+◌, ◌-◌, ◌≤◌, Bool, true, List, [], ◌∷◌, length, length-append, append_assoc, refl, sym, subst, ap, ◌∙◌, inl, inr, arith}
use Rattle.std.specs.Prelude.{count_by}
use Rattle.std.proofs.lemmas.List.{append-nil}
use Rattle.std.proofs.lemmas.Bool.{eq-eqb}
use Rattle.ham_syntax.specs.declared.act.Place.{Place}
use Rattle.ham_meaning.specs.Relations.{Meaning}
use Rattle.ham_plan.specs.Lists.{In, StartsWith}
use Rattle.ham_laws.specs.Executions.{Constraints, Execution, IsSound, Needs, IsClosed, IsClosedAfter}
use Rattle.ham_laws.specs.Counts.{of_lane}
use Rattle.ham_runs.specs.Facts.{constraints, IsSetting, Laws, IsGiven}
use Rattle.ham_turns.specs.Settings.{Rules, Setting, meaning_by}
use Rattle.ham_runs.specs.Runs.{Decision, log_of, decisions, execution_of}
use Rattle.ham_runs.specs.Claims.{LogsFollow}
use Rattle.ham_laws.proofs.Bridge.{calls_after, front_closed}
use Rattle.ham_laws.proofs.Counts.{count_by-cons, count_within, distinct}
use Rattle.ham_runs.proofs.Decisions.{places_of, found}
use Rattle.ham_runs.proofs.Kept.{Kept, shares, lane_logged}
use Rattle.ham_runs.proofs.Steps.{run_kept}
use Rattle.ham_runs.proofs.PlanSettings.{DecidesAll}

-- ---- lists from their ends
pub record Ends {X : Type 0} (xs : List X) : Type 0 where
  pub front : List X
  pub last : X
  pub is : xs ≡ front ++ last ∷ []

ends_of : {X : Type 0} (v : X) (vs : List X) → Ends (v ∷ vs)
ends_of v [] = record { front = []; last = v; is = refl }
ends_of v (u ∷ us) = let w = ends_of u us in record { front = v ∷ w.front; last = w.last; is = ap (λ l. v ∷ l) w.is }

count_each : {X : Type 0} (t : X → Bool) (xs : List X) → ((z : X) → In z xs → t z ≡ true) → count_by t xs ≡ length xs
count_each t [] h = refl
count_each t (v ∷ vs) h = count_by-cons t v vs ∙ rw (h v (inl refl), count_each t vs (λ z k. h z (inr k))) (omega arith)

-- the first calls of a lane
abbrev first_calls : ℕ → ℕ → List Place
first_calls lane zero = []
first_calls lane (suc n) = first_calls lane n ++ record { lane = lane; number = n + 1 } ∷ []

first_more : (lane n k : ℕ) → StartsWith (first_calls lane n) (first_calls lane (k + n))
first_more lane n zero = ([], ap (first_calls lane) (let e : 0 + n ≡ n = omega arith in e) ∙ sym (append-nil (first_calls lane n)))
first_more lane n (suc k) =
    let w = first_more lane n k in
    let e : suc k + n ≡ suc (k + n) = omega arith in (
      w.0 ++ record { lane = lane; number = k + n + 1 } ∷ [],
      ap (first_calls lane) e ∙ ap (λ l. l ++ record { lane = lane; number = k + n + 1 } ∷ []) w.1 ∙ append_assoc (first_calls lane n) w.0 (record { lane = lane; number = k + n + 1 } ∷ []),
    )

-- what the last call of a closed list has
module _ (m : Meaning) (p : Constraints) (e : Execution Place m.Act) where
  record IsLast (seen xs : List Place) (c : Place) : Type 0 where
    decided : In c e.decided
    new : In c seen ⊎ In c xs → ⊥
    needs : (n : Place) → Needs m p e c n → In n seen ⊎ In n xs

  last_ready : (seen xs : List Place) (c : Place) → IsClosedAfter m p e seen (xs ++ c ∷ []) → IsLast seen xs c
  last_ready seen [] c h = record { decided = h.0; new = elim [ inl k ↦ h.1 k | inr none ↦ none ]; needs = λ n need. inl (h.2 n need) }
  last_ready seen (v ∷ vs) c h =
      let w = last_ready (v ∷ seen) vs c h.3 in
      record {
        decided = w.decided;
        new = elim [
          | inl k ↦ w.new (inl (inr k))
          | inr k ↦ elim k [ inl q ↦ w.new (inl (inl q)) | inr j ↦ w.new (inr j) ]
        ];
        needs = λ n need. elim (w.needs n need) [
          | inl k ↦ elim k [ inl q ↦ inr (inl q) | inr j ↦ inl j ]
          | inr k ↦ inr (inr k)
        ];
      }

module _ (x : Rules) (y : Setting) (setting : IsSetting x y) (sound : IsSound (meaning_by x) (constraints y)) (laws : Laws (meaning_by x)) (single : DecidesAll y)
    (ds : List Decision) (log : ℕ → List Place) (kept : Kept x y ds log) where
  -- a decided call is in the one lane, which replica 1 decides
  one_lane : (c d : Place) → In c (places_of ds) → In d (places_of ds) → c.lane ≡ d.lane
  one_lane c d kc kd =
      let wc = found ds c kc in
      let wd = found ds d kd in
      let oc = kept.own wc.decision wc.stands in
      let od = kept.own wd.decision wd.stands in
      let tc = setting.fits_exist wc.decision.call.act oc.fits in
      let td = setting.fits_exist wd.decision.call.act od.fits in
      sym (ap (λ (z : Place). z.lane) wc.place) ∙ sym oc.lane
      ∙ setting.share wc.decision.call.act.method wd.decision.call.act.method wc.decision.by wd.decision.by oc.replica od.replica (single.conflict _ _ tc td)
      ∙ od.lane ∙ ap (λ (z : Place). z.lane) wd.place

  by_first : (c : Place) → In c (places_of ds) → y.decider c.lane ≡ 1
  by_first c k =
      let w = found ds c k in
      let own = kept.own w.decision w.stands in
      ap y.decider (sym (ap (λ (z : Place). z.lane) w.place) ∙ sym own.lane)
      ∙ single.first w.decision.call.act.method w.decision.by (setting.fits_exist w.decision.call.act own.fits) own.replica

  first_logged : (c : Place) → In c (places_of ds) → In c (log 1)
  first_logged c k = lane_logged x y setting sound laws ds log kept 1 c.lane (by_first c k) c k refl

  -- a closed list has the first calls of the lane, in order
  are_first : (lane : ℕ) → ((c : Place) → In c (places_of ds) → c.lane ≡ lane) → (n : ℕ) (xs : List Place) → length xs ≡ n → IsClosed (meaning_by x) (constraints y) (execution_of ds log) xs →
      xs ≡ first_calls lane n
  are_first lane all zero [] size closed = refl
  are_first lane all zero (v ∷ vs) size closed = absurd (omega arith)
  are_first lane all (suc n) [] size closed = absurd (omega arith)
  are_first lane all (suc n) (v ∷ vs) size closed =
      let e = execution_of ds log in
      let w = ends_of v vs in
      let closed' : IsClosed (meaning_by x) (constraints y) e (w.front ++ w.last ∷ []) = subst (λ l. IsClosed (meaning_by x) (constraints y) e l) w.is closed in
      let before : IsClosed (meaning_by x) (constraints y) e w.front = front_closed (meaning_by x) (constraints y) e [] w.front (w.last ∷ []) closed' in
      let last = last_ready (meaning_by x) (constraints y) e [] w.front w.last closed' in
      let len : length (w.front ++ w.last ∷ []) ≡ suc n = sym (ap length w.is) ∙ size in
      let short : length w.front ≡ n = let a = length-append w.front (w.last ∷ []) in omega arith in
      let known = calls_after (meaning_by x) (constraints y) e [] w.front before in
      let ready = (laws.ready_exactly (constraints y) e (λ c. c.number) kept.well kept.ordered (shares x y setting sound laws ds log kept) kept.numbers w.front w.last before last.decided).1
      (record { came = last.decided; new = λ k. last.new (inr k); needs = λ z need. elim (last.needs z need) [ inl none ↦ absurd none | inr k ↦ k ] }) in
      let count : count_by (of_lane e w.last.lane) w.front ≡ length w.front =
      count_each (of_lane e w.last.lane) w.front (λ z k. eq-eqb z.lane w.last.lane (one_lane z w.last (known z k) last.decided)) in
      let next = ready.next in
      let number : w.last.number ≡ n + 1 = omega arith in
      let at_lane = all w.last last.decided in
      let last_is : w.last ≡ record { lane = lane; number = n + 1 } = λ i. record { lane = at_lane i; number = number i } in
      w.is ∙ ap (λ l. l ++ w.last ∷ []) (are_first lane all n w.front short before) ∙ ap (λ z. first_calls lane n ++ z ∷ []) last_is

  pub follows_first : (r : ℕ) → StartsWith (log r) (log 1)
  follows_first r = by_log (log r) refl
    where
      by_log : (l : List Place) → log r ≡ l → StartsWith (log r) (log 1)
      by_log [] q = (log 1, ap (λ l. l ++ log 1) (sym q))
      by_log (c ∷ rest) q =
          let e = execution_of ds log in
          let known_r = calls_after (meaning_by x) (constraints y) e [] (log r) (kept.well.logs_closed r) in
          let decided : In c (places_of ds) = known_r c (subst (λ l. In c l) (sym q) (inl refl)) in
          let all : (z : Place) → In z (places_of ds) → z.lane ≡ c.lane = λ z k. one_lane z c k decided in
          let known_1 = calls_after (meaning_by x) (constraints y) e [] (log 1) (kept.well.logs_closed 1) in
          let t : Place → Bool = λ (z : Place). true in
          let le : count_by t (log r) ≤ count_by t (log 1) =
          count_within t (log r) (log 1) (distinct (meaning_by x) (constraints y) e [] (log r) (kept.well.logs_closed r)) (λ z k h. first_logged z (known_r z k)) in
          let cr : count_by t (log r) ≡ length (log r) = count_each t (log r) (λ z k. refl) in
          let c1 : count_by t (log 1) ≡ length (log 1) = count_each t (log 1) (λ z k. refl) in
          let sum : (length (log 1) - length (log r)) + length (log r) ≡ length (log 1) = omega arith in
          let is_r = are_first c.lane all (length (log r)) (log r) refl (kept.well.logs_closed r) in
          let is_1 = are_first c.lane all (length (log 1)) (log 1) refl (kept.well.logs_closed 1) in
          let more = first_more c.lane (length (log r)) (length (log 1) - length (log r)) in
          (more.0, is_1 ∙ ap (first_calls c.lane) (sym sum) ∙ more.1 ∙ ap (λ l. l ++ more.0) (sym is_r))

pub logs_follow : (x : Rules) (y : Setting) → IsGiven x y → DecidesAll y → LogsFollow x y
logs_follow x y given single notes run r =
    follows_first x y given.setting given.sound given.laws single (decisions notes) (log_of notes) (run_kept x y given.setting given.sound given.laws notes run).kept r
