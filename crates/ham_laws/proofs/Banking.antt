-- The bank is checked, its acts are changes of the balance, and its plan is sound.
use Rattle.std.proofs.Common.{◌≡◌, ◌⊎◌, ℕ, zero, suc, ℤ, pos, neg_ℤ, ◌+ℤ◌, ◌≤ℤ◌, Bool, true, false, cond, ◌&&◌, List, [], ◌∷◌, None, map, length, ◌≤◌, refl, sym, ap, subst, ◌∙◌, inl, inr, lit<, arith}
use Rattle.std.specs.List.{AllByRecursion, IsDistinct}
use Rattle.std.specs.Cmp.Lexicographic.{pointwise}
use Rattle.std.specs.Prelude.{nat_eq, ◌==◌, IsTrue, if◌then◌else◌}
use Rattle.std.proofs.lemmas.Int.{ints}
use Rattle.std.proofs.lemmas.Bool.{true≢false, both_ways, eq-eqb, eqb-true, and_parts}
use Rattle.std.proofs.lemmas.Option.{same_Some, none-some}
use Rattle.ham_syntax.specs.declared.act.Act.{Act}
use Rattle.ham_syntax.specs.declared.object.Invariant.TheVariants.{Low}
use Rattle.ham_syntax.specs.Objects.{args_fit}
use Rattle.ham_syntax.specs.declared.object.Kind.TheVariants.{Amount}
use Rattle.ham_syntax.specs.declared.object.Method.{Method}
use Rattle.ham_syntax.specs.declared.object.Param.{Param}
use Rattle.ham_syntax.specs.declared.term.Term.TheVariants.{Param as Parameter}
use Rattle.ham_syntax.specs.Checked.{IsChecked, IsParamOf, IsOnCounter, IsMethod, IsEffect, IsGuard}
use Rattle.ham_steps.specs.declared.step.Step.TheVariants as steps
use Rattle.ham_state.specs.Content.{State, value, with_change}
use Rattle.ham_state.specs.Steps.{after_steps}
use Rattle.ham_state.proofs.ContentLaws.{has-with_change, value-with_change, same_state}
use Rattle.ham_meaning.specs.First.{Each}
use Rattle.ham_meaning.specs.Meaning.{guard_holds, Holds, AllHold, IsPermissible, guards_of, net_of, update}
use Rattle.ham_meaning.specs.Relations.{StateCommute, InvariantSufficient, PermissibleRight, PermissibleLeft}
use Rattle.ham_meaning.specs.OfObjects.{meaning}
use Rattle.ham_laws.specs.Executions.{IsSound}
use Rattle.ham_laws.specs.Bank.{bank, withdrawals}
use Rattle.ham_plan.proofs.Lists.{true_or_false, and_either}

-- ---- an act changes the balance
pub record IsChange (a : Act) : Type 0 where
  pub by : ℤ
  pub net : net_of bank a ≡ steps.Change 0 0 by ∷ []
  pub free : guards_of bank a ≡ []
  pub sign : ((a.method ≡ 0) × (pos 0 ≤ℤ by)) ⊎ ((a.method ≡ 1) × (by ≤ℤ pos 0))

one_argument : (n k : ℕ) (rest : List ℕ) → (1 == length (n ∷ k ∷ rest)) ≡ true → ⊥
one_argument n k rest e = let one : 1 ≡ length (n ∷ k ∷ rest) = eqb-true 1 (length (n ∷ k ∷ rest)) e in absurd (omega arith)

change_by : (f : ℕ) (args : List ℕ) → args_fit bank (record { method = f; args = args }) ≡ true → IsChange (record { method = f; args = args })
change_by zero [] fits = absurd (true≢false (sym fits))
change_by zero (n ∷ []) fits = record { by = pos n; net = refl; free = refl; sign = inl (refl, omega (arith, ints)) }
change_by zero (n ∷ k ∷ rest) fits = absurd (one_argument n k rest (and_parts (1 == length (n ∷ k ∷ rest)) _ fits).0)
change_by (suc zero) [] fits = absurd (true≢false (sym fits))
change_by (suc zero) (n ∷ []) fits = record { by = neg_ℤ (pos n); net = refl; free = refl; sign = inr (refl, omega (arith, ints)) }
change_by (suc zero) (n ∷ k ∷ rest) fits = absurd (one_argument n k rest (and_parts (1 == length (n ∷ k ∷ rest)) _ fits).0)
change_by (suc (suc f)) args fits = absurd (true≢false (sym fits))

pub change : (a : Act) → args_fit bank a ≡ true → IsChange a
change a fits = change_by a.method a.args fits

-- ---- the balance after a change
abbrev pub part : ℤ → ℕ → ℤ
part z k = if (0 == 0) && (0 == k) then z else pos 0

part_up : (z : ℤ) (b : Bool) → pos 0 ≤ℤ z → pos 0 ≤ℤ cond b z (pos 0)
part_up z true h = h
part_up z false h = omega (arith, ints)

part_down : (z : ℤ) (b : Bool) → z ≤ℤ pos 0 → cond b z (pos 0) ≤ℤ pos 0
part_down z true h = h
part_down z false h = omega (arith, ints)

module _ (a : Act) (w : IsChange a) (s : State) where
  pub after : update bank a s ≡ with_change s 0 0 w.by
  after = ap (λ net. after_steps net s) w.net

  pub balance_after : (k : ℕ) → value (update bank a s) 0 k ≡ value s 0 k +ℤ part w.by k
  balance_after k = ap (λ (t : State). value t 0 k) after ∙ value-with_change s 0 0 w.by 0 k

balance_low : (s : State) → AllHold bank s → (k : ℕ) → pos 0 ≤ℤ value s 0 k
balance_low s h = h 0 (Low 0 (pos 0)) refl

all_hold : (s : State) → ((k : ℕ) → pos 0 ≤ℤ value s 0 k) → AllHold bank s
all_hold s low zero x is = subst (Holds s) (same_Some (Low 0 (pos 0)) x is) low
all_hold s low (suc i) x is = absurd (none-some x is)

pub permissible_from : (a : Act) (w : IsChange a) (s : State) → ((k : ℕ) → pos 0 ≤ℤ (value s 0 k +ℤ part w.by k)) → IsPermissible bank s a
permissible_from a w s low = record {
  guards = subst (λ gs. Each (λ g. IsTrue (guard_holds a.args s g)) gs) (sym w.free) (λ i x is. absurd (none-some x is));
  invariants = all_hold (update bank a s) (λ k. subst (λ v. pos 0 ≤ℤ v) (sym (balance_after a w s k)) (low k));
}

permissible_low : (a : Act) (w : IsChange a) (s : State) → IsPermissible bank s a → (k : ℕ) → pos 0 ≤ℤ (value s 0 k +ℤ part w.by k)
permissible_low a w s h k = subst (λ v. pos 0 ≤ℤ v) (balance_after a w s k) (balance_low (update bank a s) h.invariants k)

-- ---- changes commute
changes_commute : (s : State) (y z : ℤ) → with_change (with_change s 0 0 y) 0 0 z ≡ with_change (with_change s 0 0 z) 0 0 y
changes_commute s y z =
    same_state _ _
    (λ r x. has-with_change _ 0 0 z r x ∙ has-with_change s 0 0 y r x ∙ sym (has-with_change s 0 0 z r x) ∙ sym (has-with_change _ 0 0 y r x))
    (λ c k.
    let first = value-with_change (with_change s 0 0 y) 0 0 z c k in
    let second = value-with_change s 0 0 y c k in
    let third = value-with_change (with_change s 0 0 z) 0 0 y c k in
    let fourth = value-with_change s 0 0 z c k in
    omega (arith, ints))

acts_commute : (f g : ℕ) → StateCommute (meaning bank) f g
acts_commute f g a b s ha hb ok =
    let u = change a ha.0 in
    let v = change b hb.0 in
    after a u (update bank b s) ∙ ap (λ t. with_change t 0 0 u.by) (after b v s)
    ∙ changes_commute s v.by u.by
    ∙ sym (after b v (update bank a s) ∙ ap (λ t. with_change t 0 0 v.by) (after a u s))

-- ---- the relations of deposits and withdrawals
not_one : (f : ℕ) (a : Act) → a.method ≡ f → (f == 1) ≡ false → a.method ≡ 1 → ⊥
not_one f a q n one = both_ways (f == 1) n (eq-eqb f 1 (sym q ∙ one))

not_zero : (f : ℕ) (a : Act) → a.method ≡ f → (f == 0) ≡ false → a.method ≡ 0 → ⊥
not_zero f a q n none = both_ways (f == 0) n (eq-eqb f 0 (sym q ∙ none))

deposits_sufficient : (f : ℕ) → (f == 1) ≡ false → InvariantSufficient (meaning bank) f
deposits_sufficient f n a s ha ok inv =
    let w = change a ha.0 in
    elim w.sign [
      | inr down ↦ absurd (not_one f a ha.1 n down.0)
      | inl up ↦ permissible_from a w s (λ k. let low = balance_low s inv k in let gain = part_up w.by ((0 == 0) && (0 == k)) up.1 in omega (arith, ints))
    ]

after_deposits : (f g : ℕ) → (g == 1) ≡ false → PermissibleRight (meaning bank) f g
after_deposits f g n a b s ha hb ok inv pa pb =
    let w = change a ha.0 in
    let v = change b hb.0 in
    elim v.sign [
      | inr down ↦ absurd (not_one g b hb.1 n down.0)
      | inl up ↦ permissible_from a w (update bank b s) (λ k.
          let low = permissible_low a w s pa k in
          let grown = balance_after b v s k in
          let gain = part_up v.by ((0 == 0) && (0 == k)) up.1 in
          omega (arith, ints))
    ]

before_withdrawals : (f g : ℕ) → (g == 0) ≡ false → PermissibleLeft (meaning bank) f g
before_withdrawals f g n a b s ha hb ok inv pb pa =
    let w = change a ha.0 in
    let v = change b hb.0 in
    elim v.sign [
      | inl up ↦ absurd (not_zero g b hb.1 n up.0)
      | inr down ↦ permissible_from a w s (λ k.
          let low = permissible_low a w (update bank b s) pa k in
          let grown = balance_after b v s k in
          let loss = part_down v.by ((0 == 0) && (0 == k)) down.1 in
          omega (arith, ints))
    ]

pub withdrawals_sound : IsSound (meaning bank) withdrawals
withdrawals_sound = record {
  symmetric = λ f g. and_either (f == 1) (g == 1);
  commute = λ f g apart. acts_commute f g;
  right = λ f g apart. elim (true_or_false (f == 1)) [
    | inr n ↦ inl (deposits_sufficient f n)
    | inl t ↦ inr (after_deposits f g (subst (λ x. (x && (g == 1)) ≡ false) t apart))
  ];
  left = λ f g free. elim (true_or_false (f == 1)) [
    | inr n ↦ inl (deposits_sufficient f n)
    | inl t ↦ inr (before_withdrawals f g (subst (λ x. (x && (g == 0)) ≡ false) t free))
  ];
}

-- ---- the bank is checked
on_balance : (params : List Param) → IsParamOf params Amount 0 → IsOnCounter bank.counters params 0 None (Parameter 0)
on_balance params amount = record { exists = omega arith; is_key = tt; is_amount = amount }

a_method : (m : Method) → length m.params ≤ 6 → IsDistinct (pointwise nat_eq) (map (λ q. q.name) m.params) → m.guards ≡ [] → length m.effects ≤ 8 → AllByRecursion (IsEffect bank.relations bank.counters m.params) m.effects → IsMethod bank.relations bank.counters m
a_method m few distinct none few_effects effects = record {
  few_params = few;
  few_guards = subst (λ gs. length gs ≤ 8) (sym none) (omega arith);
  few_effects = few_effects;
  distinct = distinct;
  each_guard = subst (λ gs. AllByRecursion (IsGuard bank.relations bank.counters m.params) gs) (sym none) tt;
  each_effect = effects;
}

pub bank_checked : IsChecked bank
unfolding IsDistinct
bank_checked = record {
  few_relations = omega arith;
  distinct_relations = tt;
  each_relation = tt;
  each_counter = (refl, tt);
  few_counters = omega arith;
  few_invariants = omega arith;
  few_methods = omega arith;
  distinct_counters = (tt, tt);
  distinct_methods = ((refl, tt), (tt, tt));
  each_invariant = ((omega arith, omega (arith, ints)), tt);
  each_method = (
    a_method _ (omega arith) (tt, tt) refl (omega arith) (on_balance _ (omega arith, refl), tt),
    (a_method _ (omega arith) (tt, tt) refl (omega arith) (on_balance _ (omega arith, refl), tt), tt),
  );
  typed = record {
    relations = tt;
    counters = (refl, tt);
    invariants = (lit< tt, tt);
    methods = (
      record { named = refl; params = (refl, tt); guards = tt; effects = ((tt, tt), tt) },
      (record { named = refl; params = (refl, tt); guards = tt; effects = ((tt, tt), tt) }, tt),
    );
  };
}
