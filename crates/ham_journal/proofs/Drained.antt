-- The drain as a function is the drain that a replica tells of.
use Rattle.std.proofs.Common.{◌≡◌, ℕ, zero, suc, ◌+◌, ◌≤◌, ◌<◌, ◌⊎◌, Bool, true, false, ◌&&◌, List, [], ◌∷◌, length, Option, Some, None, if◌then◌else◌, refl, sym, subst, ap, ◌∙◌, inl, inr, arith}
use Rattle.std.specs.Prelude.{◌==◌, nat_le, count_by, option_and_then}
use Rattle.std.proofs.lemmas.Bool.{eqb-true, eq-eqb, and_parts}
use Rattle.std.proofs.lemmas.Option.{none-some, same_Some}
use Rattle.ham_syntax.specs.declared.act.Place.{Place}
use Rattle.ham_syntax.specs.declared.act.Call.{Call}
use Rattle.ham_turns.specs.Settings.{Rules, Setting}
use Rattle.ham_journal.specs.Drains.{within_test, ready_at, next_in, least_ready, drained}
use Rattle.ham_turns.specs.Words.{ReplicaWords, place_of, same_place, in_lane}
use Rattle.ham_turns.specs.Work.{logged_one, first_of_two}
use Rattle.ham_turns.specs.Ready.{IsWithin, IsReadyHere, LogsReady, Stop, Log, IsSettled}

less_or_same : (a b : ℕ) → a < suc b → (a < b) ⊎ (a ≡ b)
less_or_same a b h = grind arith

same_refl : (p : Place) → same_place p p ≡ true
same_refl p = rw (eq-eqb p.lane p.lane refl, eq-eqb p.number p.number refl) refl

pub same_true : (p q : Place) → same_place p q ≡ true → p ≡ q
same_true p q e =
    let both = and_parts (p.lane == q.lane) (p.number == q.number) e in
    let lane : p.lane ≡ q.lane = eqb-true p.lane q.lane both.0 in
    let number : p.number ≡ q.number = eqb-true p.number q.number both.1 in
    ap (λ (l : ℕ). record { lane = l; number = p.number }) lane ∙ ap (λ (n : ℕ). record { lane = q.lane; number = n }) number

within_true : (w : ReplicaWords) (deps slots : List ℕ) → IsWithin w deps slots → within_test w deps slots ≡ true
within_true w [] slots h = refl
within_true w (n ∷ deps) [] h = refl
within_true w (n ∷ deps) (s ∷ slots) h =
    let le : nat_le n (w.count_of s) ≡ true = grind (arith, h.0) in
    rw (le, within_true w deps slots h.1) refl

true_within : (w : ReplicaWords) (deps slots : List ℕ) → within_test w deps slots ≡ true → IsWithin w deps slots
true_within w [] slots e = tt
true_within w (n ∷ deps) [] e = tt
true_within w (n ∷ deps) (s ∷ slots) e =
    let both = and_parts (nat_le n (w.count_of s)) (within_test w deps slots) e in
    (grind (arith, both.0), true_within w deps slots both.1)

if_some : {X : Type 0} (b : Bool) (d c : X) → (if b then Some d else None) ≡ Some c → (b ≡ true) × (d ≡ c)
if_some true d c e = (refl, same_Some d c e)
if_some false d c e = absurd (none-some c e)

first_cases : {X : Type 0} (a b : Option X) (d : X) → first_of_two a b ≡ Some d → (a ≡ Some d) ⊎ ((a ≡ None) × (b ≡ Some d))
first_cases (Some x) b d e = inl e
first_cases None b d e = inr (refl, e)

none_cases : {X : Type 0} (a b : Option X) → first_of_two a b ≡ None → (a ≡ None) × (b ≡ None)
none_cases (Some x) b e = absurd (none-some x (sym e))
none_cases None b e = (refl, e)

at_parts : (y : Setting) (w : ReplicaWords) (p : Place) (found : Option Call) (c : Call) → ready_at y w p found ≡ Some c
    → (found ≡ Some c) × (place_of c ≡ p) × IsWithin w c.deps (y.needs c.act.method)
at_parts y w p None c e = absurd (none-some c e)
at_parts y w p (Some d) c e =
    let parts = if_some (same_place (place_of d) p && within_test w d.deps (y.needs d.act.method)) d c e in
    let both = and_parts (same_place (place_of d) p) (within_test w d.deps (y.needs d.act.method)) parts.0 in
    subst (λ (z : Call). (Some d ≡ Some z) × (place_of z ≡ p) × IsWithin w z.deps (y.needs z.act.method)) parts.1
    (refl, same_true (place_of d) p both.0, true_within w d.deps (y.needs d.act.method) both.1)

-- what is found in a lane is ready
here : (y : Setting) (w : ReplicaWords) (lane : ℕ) (c : Call) → lane < y.lanes → ready_at y w (next_in w lane) (w.kept (next_in w lane)) ≡ Some c
    → IsReadyHere y w c × (c.lane ≡ lane)
here y w lane c lt e =
    let parts = at_parts y w (next_in w lane) (w.kept (next_in w lane)) c e in
    let same : c.lane ≡ lane = ap (λ (p : Place). p.lane) parts.1 in (
      record {
        lane = rw same lt;
        kept = ap w.kept parts.1 ∙ parts.0;
        next = ap (λ (p : Place). p.number) parts.1 ∙ ap (λ (l : ℕ). count_by (in_lane l) w.log + 1) (sym same);
        counts = parts.2;
      },
      same,
    )

-- a ready call is found in its lane
found : (y : Setting) (w : ReplicaWords) (c : Call) → IsReadyHere y w c → ready_at y w (next_in w c.lane) (w.kept (next_in w c.lane)) ≡ Some c
found y w c h =
    let place : place_of c ≡ next_in w c.lane = ap (λ (n : ℕ). record { lane = c.lane; number = n }) h.next in
    let kept : w.kept (next_in w c.lane) ≡ Some c = ap w.kept (sym place) ∙ h.kept in
    let same : same_place (place_of c) (next_in w c.lane) ≡ true = subst (λ (p : Place). same_place (place_of c) p ≡ true) place (same_refl (place_of c)) in
    rw (kept, same, within_true w c.deps (y.needs c.act.method) h.counts) refl

pub least_sound : (y : Setting) (w : ReplicaWords) (n : ℕ) (c : Call) → n ≤ y.lanes → least_ready y w n ≡ Some c → IsReadyHere y w c × (c.lane < n)
least_sound y w zero c le e = absurd (none-some c e)
least_sound y w (suc n) c le e =
    elim (first_cases (least_ready y w n) (ready_at y w (next_in w n) (w.kept (next_in w n))) c e) [
      | inl old ↦ (let r = least_sound y w n c (omega arith) old in (r.0, omega (arith, r.1)))
      | inr new ↦ (let r = here y w n c (omega arith) new.1 in (r.0, omega (arith, r.1)))
    ]

none_below : (y : Setting) (w : ReplicaWords) (n : ℕ) → least_ready y w n ≡ None → (c : Call) → IsReadyHere y w c → c.lane < n → ⊥
none_below y w zero e c h lt = absurd (omega arith)
none_below y w (suc n) e c h lt =
    let both = none_cases (least_ready y w n) (ready_at y w (next_in w n) (w.kept (next_in w n))) e in
    elim (less_or_same c.lane n lt) [
      | inl old ↦ none_below y w n both.0 c h old
      | inr same ↦ none-some c (sym both.1 ∙ subst (λ (l : ℕ). ready_at y w (next_in w l) (w.kept (next_in w l)) ≡ Some c) same (found y w c h))
    ]

option_cases : {X : Type 0} (a : Option X) → (a ≡ None) ⊎ ((x : X) × (a ≡ Some x))
option_cases None = inl refl
option_cases (Some x) = inr (x, refl)

pub none_settled : (y : Setting) (w : ReplicaWords) → least_ready y w y.lanes ≡ None → IsSettled y w
none_settled y w e c h = none_below y w y.lanes e c h h.lane

pub settled_none : (y : Setting) (w : ReplicaWords) → IsSettled y w → least_ready y w y.lanes ≡ None
settled_none y w h =
    elim (option_cases (least_ready y w y.lanes)) [
      | inl none ↦ none
      | inr some ↦ absurd (h some.0 (least_sound y w y.lanes some.0 (omega arith) some.1).0)
    ]

-- two ready calls of one lane are one
one : (y : Setting) (w : ReplicaWords) (c d : Call) → IsReadyHere y w c → IsReadyHere y w d → c.lane ≡ d.lane → c ≡ d
one y w c d hc hd e =
    same_Some c d (sym (found y w c hc) ∙ subst (λ (l : ℕ). ready_at y w (next_in w l) (w.kept (next_in w l)) ≡ Some d) (sym e) (found y w d hd))

least_is : (y : Setting) (w : ReplicaWords) (c : Call) → IsReadyHere y w c → ((d : Call) → IsReadyHere y w d → c.lane ≤ d.lane) → (n : ℕ) → n ≤ y.lanes → c.lane < n
    → least_ready y w n ≡ Some c
least_is y w c h least zero le lt = absurd (omega arith)
least_is y w c h least (suc n) le lt =
    elim (option_cases (least_ready y w n)) [
      | inl none ↦ (
          let last : c.lane ≡ n = here_or_below none in
          ap (λ (a : Option Call). first_of_two a (ready_at y w (next_in w n) (w.kept (next_in w n)))) none
          ∙ subst (λ (l : ℕ). ready_at y w (next_in w l) (w.kept (next_in w l)) ≡ Some c) last (found y w c h))
      | inr some ↦ (
          let r = least_sound y w n some.0 (omega arith) some.1 in
          let le2 : c.lane ≤ some.0.lane = least some.0 r.0 in
          let same : least_ready y w n ≡ Some c = least_is y w c h least n (omega arith) (omega (arith, r.1, le2)) in
          ap (λ (a : Option Call). first_of_two a (ready_at y w (next_in w n) (w.kept (next_in w n)))) same)
    ]
  where
    here_or_below : least_ready y w n ≡ None → c.lane ≡ n
    here_or_below none = elim (less_or_same c.lane n lt) [ inl old ↦ absurd (none_below y w n none c h old) | inr same ↦ same ]

pub logs_drained : (x : Rules) (y : Setting) (w after : ReplicaWords) (calls : List Call) → LogsReady x y w calls after → drained x y (length calls) w ≡ Some after
logs_drained x y w after calls Stop = refl
logs_drained x y w after calls (Log {rest = rest} c ready least more) =
    ap (λ (a : Option Call). option_and_then (λ d. drained x y (length rest) (logged_one x y w d)) a) (least_is y w c ready least y.lanes (omega arith) ready.lane)
    ∙ logs_drained x y (logged_one x y w c) after rest more
