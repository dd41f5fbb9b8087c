-- The payments of the bank are well-coordinated.
use Rattle.std.proofs.Common.{◌≡◌, ◌++◌, ℕ, ◌+◌, count_by, pos, neg_ℤ, ◌+ℤ◌, ◌≤ℤ◌, Bool, true, false, cond, [], ◌∷◌, refl, sym, ap, ◌∙◌, inl, inr, arith}
use Rattle.std.specs.Prelude.{◌==◌, ◌&&◌}
use Rattle.std.proofs.lemmas.Int.{ints}
use Rattle.std.proofs.lemmas.Bool.{true≢false, and_parts}
use Rattle.ham_syntax.specs.declared.act.Place.{Place}
use Rattle.ham_state.specs.Content.{opening}
use Rattle.ham_state.proofs.ContentLaws.{value-opening}
use Rattle.ham_meaning.specs.Meaning.{IsPermissible, update}
use Rattle.ham_meaning.specs.OfObjects.{meaning}
use Rattle.ham_plan.specs.Lists.{In, StartsWith}
use Rattle.ham_laws.specs.Executions.{IsClosed, IsWellCoordinated, method_of, end_of}
use Rattle.ham_laws.specs.Drain.{LanesOrdered}
use Rattle.ham_laws.specs.Counts.{of_lane, IsNumbered, ConflictsShareLanes}
use Rattle.ham_laws.specs.Bank.{bank, withdrawals, deposit, withdraw, salary, rent, gift, payments}
use Rattle.ham_plan.proofs.Lists.{each_of_three}
use Rattle.ham_laws.proofs.Places.{lanes_apart, numbers_apart}
use Rattle.ham_laws.proofs.Banking.{IsChange, balance_after, permissible_from}

-- ---- each payment is permissible
abbrev paid : (n : ℕ) → IsChange (deposit n)
paid n = record { by = pos n; net = refl; free = refl; sign = inl (refl, omega (arith, ints)) }

abbrev drawn : (n : ℕ) → IsChange (withdraw n)
drawn n = record { by = neg_ℤ (pos n); net = refl; free = refl; sign = inr (refl, omega (arith, ints)) }

gained : (n : ℕ) (b : Bool) → pos 0 ≤ℤ cond b (pos n) (pos 0)
gained n true = omega (arith, ints)
gained n false = omega (arith, ints)

covered : (b : Bool) → pos 0 ≤ℤ (cond b (pos 5) (pos 0) +ℤ cond b (neg_ℤ (pos 3)) (pos 0))
covered true = omega (arith, ints)
covered false = omega (arith, ints)

first_deposit : (n : ℕ) → IsPermissible bank opening (deposit n)
first_deposit n =
    permissible_from (deposit n) (paid n) opening (λ k.
    let none = value-opening 0 k in
    let gain = gained n ((0 == 0) && (0 == k)) in
    omega (arith, ints))

rent_covered : IsPermissible bank (update bank (deposit 5) opening) (withdraw 3)
rent_covered =
    permissible_from (withdraw 3) (drawn 3) (update bank (deposit 5) opening) (λ k.
    let none = value-opening 0 k in
    let salaried = balance_after (deposit 5) (paid 5) opening k in
    let left = covered ((0 == 0) && (0 == k)) in
    omega (arith, ints))

-- ---- closed lists
rent_new : In rent (salary ∷ []) → ⊥
rent_new (inl q) = lanes_apart rent salary refl q
rent_new (inr none) = none

gift_new : In gift (rent ∷ salary ∷ []) → ⊥
gift_new (inl q) = lanes_apart gift rent refl q
gift_new (inr (inl q)) = lanes_apart gift salary refl q
gift_new (inr (inr none)) = none

rent_last : In rent (salary ∷ gift ∷ []) → ⊥
rent_last (inl q) = lanes_apart rent salary refl q
rent_last (inr (inl q)) = lanes_apart rent gift refl q
rent_last (inr (inr none)) = none

salary_new : In salary (gift ∷ []) → ⊥
salary_new (inl q) = lanes_apart salary gift refl q
salary_new (inr none) = none

earlier : (n : Place) → In n (salary ∷ []) → In n (salary ∷ gift ∷ [])
earlier n (inl q) = inl q
earlier n (inr none) = absurd none

pub first_closed : IsClosed (meaning bank) withdrawals payments (salary ∷ rent ∷ gift ∷ [])
first_closed = (
  inl refl,
  λ k. k,
  λ n need. need.0,
  (inr (inl refl), rent_new, λ n need. need.0, (inr (inr (inl refl)), gift_new, λ n need. absurd need.0, tt)),
)

pub second_closed : IsClosed (meaning bank) withdrawals payments (gift ∷ salary ∷ rent ∷ [])
second_closed = (
  inr (inr (inl refl)),
  λ k. k,
  λ n need. need.0,
  (inl refl, salary_new, λ n need. absurd need.0, (inr (inl refl), rent_last, λ n need. earlier n need.0, tt)),
)

salary_closed : IsClosed (meaning bank) withdrawals payments (salary ∷ [])
salary_closed = (inl refl, λ k. k, λ n need. need.0, tt)

logged : (a b : Bool) → IsClosed (meaning bank) withdrawals payments (cond a (salary ∷ rent ∷ gift ∷ []) (cond b (gift ∷ salary ∷ rent ∷ []) []))
logged true b = first_closed
logged false true = second_closed
logged false false = tt

-- ---- the execution
only_rent : (c : Place) → In c payments.decided → (method_of (meaning bank) payments c == 1) ≡ true → c ≡ rent
only_rent = each_of_three salary rent gift (λ c. (method_of (meaning bank) payments c == 1) ≡ true → c ≡ rent)
    (λ t. absurd (true≢false (sym t))) (λ t. refl) (λ t. absurd (true≢false (sym t)))

pub payments_well : IsWellCoordinated (meaning bank) withdrawals payments
payments_well = record {
  in_order = (λ k. k, λ n k. k, (rent_new, λ n k. k, (gift_new, λ n k. absurd k, tt)));
  decided_there = each_of_three salary rent gift (λ c. StartsWith (payments.before c ++ c ∷ []) (payments.log (payments.decider c)))
      (rent ∷ gift ∷ [], refl) (gift ∷ [], refl) (salary ∷ rent ∷ [], refl);
  fits = each_of_three salary rent gift (λ c. (meaning bank).Fits (payments.act c)) refl refl refl;
  permissible_at = each_of_three salary rent gift (λ c. IsPermissible bank (end_of (meaning bank) payments (payments.before c)) (payments.act c))
      (first_deposit 5) rent_covered (first_deposit 4);
  before_closed = each_of_three salary rent gift (λ c. IsClosed (meaning bank) withdrawals payments (payments.before c)) tt salary_closed tt;
  logs_closed = λ r. logged (r == 1) (r == 2);
  conflicts_ordered = λ c d dc dd ne t.
      let both = and_parts (method_of (meaning bank) payments c == 1) (method_of (meaning bank) payments d == 1) t in
      absurd (ne (only_rent c dc both.0 ∙ sym (only_rent d dd both.1)));
}

-- ---- lanes and numbers
one_of_lane : (c : Place) → In c payments.decided → (d : Place) → In d payments.decided → c.lane ≡ d.lane → c ≡ d
one_of_lane = each_of_three salary rent gift (λ c. (d : Place) → In d payments.decided → c.lane ≡ d.lane → c ≡ d)
    (each_of_three salary rent gift (λ d. salary.lane ≡ d.lane → salary ≡ d) (λ q. refl) (λ q. absurd (numbers_apart 1 0 refl q)) (λ q. absurd (numbers_apart 1 2 refl q)))
    (each_of_three salary rent gift (λ d. rent.lane ≡ d.lane → rent ≡ d) (λ q. absurd (numbers_apart 0 1 refl q)) (λ q. refl) (λ q. absurd (numbers_apart 0 2 refl q)))
    (each_of_three salary rent gift (λ d. gift.lane ≡ d.lane → gift ≡ d) (λ q. absurd (numbers_apart 2 1 refl q)) (λ q. absurd (numbers_apart 2 0 refl q)) (λ q. refl))

pub payments_ordered : LanesOrdered payments
payments_ordered c d dc dd ne q = absurd (ne (one_of_lane c dc d dd q))

pub payments_shared : ConflictsShareLanes (meaning bank) withdrawals payments
payments_shared c d dc dd t =
    let both = and_parts (method_of (meaning bank) payments c == 1) (method_of (meaning bank) payments d == 1) t in
    ap (λ (x : Place). x.lane) (only_rent c dc both.0 ∙ sym (only_rent d dd both.1))

pub payments_numbered : IsNumbered payments (λ c. c.number)
payments_numbered = each_of_three salary rent gift (λ c. c.number ≡ count_by (of_lane payments (payments.lane c)) (payments.before c) + 1) refl refl refl
