-- The executions of the tiny meanings.
use Rattle.std.proofs.Common.{◌≡◌, ◌≢◌, ◌⊎◌, ◌++◌, ℕ, ℤ, pos, ◌-ℤ◌, ◌≤ℤ◌, Bool, true, false, cond, ◌&&◌, List, [], ◌∷◌, refl, sym, ap, subst, ◌∙◌, inl, inr, arith}
use Rattle.std.proofs.lemmas.Int.{ints}
use Rattle.std.proofs.lemmas.Bool.{true≢false, both_ways, eq-eqb}
use Rattle.std.specs.Prelude.{◌==◌}
use Rattle.ham_syntax.specs.declared.act.Place.{Place}
use Rattle.ham_meaning.specs.Relations.{StateCommute, InvariantSufficient, PermissibleRight}
use Rattle.ham_plan.specs.Lists.{In, SameCalls, StartsWith}
use Rattle.ham_laws.specs.Executions.{Constraints, IsClosed, IsWellCoordinated, method_of, end_of}
use Rattle.ham_laws.specs.Coordinated.{IsPermissibleThroughout, HoldsThroughout}
use Rattle.ham_laws.specs.Single.{single}
use Rattle.ham_laws.specs.Register.{register, first, second, two_settings}
use Rattle.ham_laws.specs.Purse.{Coin, coin_method, coin_change, purse, put_call, take_call, careless, put_and_take}
use Rattle.ham_laws.specs.Purse.Coin.{Put, Take}
use Rattle.ham_laws.proofs.Places.{lanes_apart}
use Rattle.ham_plan.proofs.Lists.{each_of_two, true_or_false, and_either}

pub swapped : {X : Type 0} (x y : X) → SameCalls (x ∷ y ∷ []) (y ∷ x ∷ [])
swapped x y = (each_of_two x y (λ z. In z (y ∷ x ∷ [])) (inr (inl refl)) (inl refl), each_of_two y x (λ z. In z (x ∷ y ∷ [])) (inr (inl refl)) (inl refl))

-- ---- the register
seen_first : In second (first ∷ []) → ⊥
seen_first (inl q) = let numbers : ◌≡◌ {A = ℕ} 2 1 = ap (λ (c : Place). c.number) q in absurd (omega arith)
seen_first (inr none) = none

pub settings_closed : IsClosed register single two_settings (first ∷ second ∷ [])
settings_closed = (inl refl, λ k. k, λ n need. need.0, (inr (inl refl), seen_first, λ n need. need.0, tt))

first_closed : IsClosed register single two_settings (first ∷ [])
first_closed = (inl refl, λ k. k, λ n need. need.0, tt)

settings_logged : (r : ℕ) (b : Bool) → IsClosed register single two_settings (cond b (first ∷ second ∷ []) [])
settings_logged r true = settings_closed
settings_logged r false = tt

pub settings_well : IsWellCoordinated register single two_settings
settings_well = record {
  in_order = (λ k. k, λ c k. k, (seen_first, λ c k. k, tt));
  decided_there = each_of_two first second (λ c. StartsWith (two_settings.before c ++ c ∷ []) (two_settings.log (two_settings.decider c))) (second ∷ [], refl) ([], refl);
  fits = λ c d. tt;
  permissible_at = λ c d. tt;
  before_closed = each_of_two first second (λ c. IsClosed register single two_settings (two_settings.before c)) tt first_closed;
  logs_closed = λ r. settings_logged r (r == 1);
  conflicts_ordered = λ c d dc dd ne t.
      each_of_two first second (λ x. x ≢ d → In x (two_settings.before d) ⊎ In d (two_settings.before x))
      (each_of_two first second (λ y. first ≢ y → In first (two_settings.before y) ⊎ In y (two_settings.before first)) (λ same. absurd (same refl)) (λ other. inl (inl refl)) d dd)
      (each_of_two first second (λ y. second ≢ y → In second (two_settings.before y) ⊎ In y (two_settings.before second)) (λ other. inr (inl refl)) (λ same. absurd (same refl)) d dd)
      c dc ne;
}

-- ---- the purse
seen_put : In take_call (put_call ∷ []) → ⊥
seen_put (inl q) = lanes_apart take_call put_call refl q
seen_put (inr none) = none

module _ (p : Constraints) (others : List Place) where
  put_closed : IsClosed purse p (put_and_take others) (put_call ∷ [])
  put_closed = (inl refl, λ k. k, λ n need. need.0, tt)

  both_closed : IsClosed purse p (put_and_take others) (put_call ∷ take_call ∷ [])
  both_closed = (inl refl, λ k. k, λ n need. need.0, (inr (inl refl), seen_put, λ n need. need.0, tt))

  purse_logged : IsClosed purse p (put_and_take others) others → (b : Bool) → IsClosed purse p (put_and_take others) (cond b (put_call ∷ take_call ∷ []) others)
  purse_logged h true = both_closed
  purse_logged h false = h

  -- well-coordinated, where the log of the others is closed
  pub purse_well : IsClosed purse p (put_and_take others) others → IsWellCoordinated purse p (put_and_take others)
  purse_well h = record {
    in_order = (λ k. k, λ c k. k, (seen_put, λ c k. k, tt));
    decided_there = each_of_two put_call take_call (λ c. StartsWith ((put_and_take others).before c ++ c ∷ []) ((put_and_take others).log ((put_and_take others).decider c))) (take_call ∷ [], refl) ([], refl);
    fits = λ c d. tt;
    permissible_at = each_of_two put_call take_call (λ c. purse.Permissible (end_of purse (put_and_take others) ((put_and_take others).before c)) ((put_and_take others).act c)) (omega (arith, ints)) (omega (arith, ints));
    before_closed = each_of_two put_call take_call (λ c. IsClosed purse p (put_and_take others) ((put_and_take others).before c)) tt put_closed;
    logs_closed = λ r. purse_logged h (r == 1);
    conflicts_ordered = λ c d dc dd ne t.
        each_of_two put_call take_call (λ x. x ≢ d → In x ((put_and_take others).before d) ⊎ In d ((put_and_take others).before x))
        (each_of_two put_call take_call (λ y. put_call ≢ y → In put_call ((put_and_take others).before y) ⊎ In y ((put_and_take others).before put_call)) (λ same. absurd (same refl)) (λ other. inl (inl refl)) d dd)
        (each_of_two put_call take_call (λ y. take_call ≢ y → In take_call ((put_and_take others).before y) ⊎ In y ((put_and_take others).before take_call)) (λ other. inr (inl refl)) (λ same. absurd (same refl)) d dd)
        c dc ne;
  }

-- the take needs nothing under the careless plan
pub take_closed : IsClosed purse careless (put_and_take (take_call ∷ [])) (take_call ∷ [])
take_closed = (inr (inl refl), λ k. k, λ n need. absurd (free n need.0 need.1), tt)
  where
    free : (n : Place) → In n (put_call ∷ []) → (n.lane ≡ 0) ⊎ ((careless.conflict (method_of purse (put_and_take (take_call ∷ [])) n) 1 ≡ true) ⊎ (false ≡ true)) → ⊥
    free n (inl q) needs =
        elim (subst (λ z. (z.lane ≡ 0) ⊎ ((careless.conflict (method_of purse (put_and_take (take_call ∷ [])) z) 1 ≡ true) ⊎ (false ≡ true))) q needs) [
          | inl lane ↦ absurd (omega arith)
          | inr r ↦ elim r [ inl t ↦ true≢false (sym t) | inr t ↦ true≢false (sym t) ]
        ]
    free n (inr none) needs = none

-- a take from an empty purse is not permissible, and breaks the invariant
pub take_forbidden : (others rest : List Place) → IsPermissibleThroughout purse (put_and_take others) (take_call ∷ rest) → ⊥
take_forbidden others rest h = let low : pos 0 ≤ℤ (pos 0 -ℤ pos 1) = h [] rest take_call refl in absurd (omega (arith, ints))

pub take_breaks : (others rest : List Place) → HoldsThroughout purse (put_and_take others) (take_call ∷ rest) → ⊥
take_breaks others rest h = let low : pos 0 ≤ℤ (pos 0 -ℤ pos 1) = h (take_call ∷ []) rest refl in absurd (omega (arith, ints))

-- ---- puts and takes commute, and a put is permissible wherever the invariant holds
pub coins_commute : (f g : ℕ) → StateCommute purse f g
coins_commute f g Put Put s ha hb ok = refl
coins_commute f g Put Take s ha hb ok = omega (arith, ints)
coins_commute f g Take Put s ha hb ok = omega (arith, ints)
coins_commute f g Take Take s ha hb ok = refl

pub careless_right : (f g : ℕ) → careless.conflict f g ≡ false → InvariantSufficient purse f ⊎ PermissibleRight purse f g
careless_right f g apart = elim (true_or_false (f == 1)) [
  | inr n ↦ inl (λ a s ha ok inv. put_permissible a s (λ q. both_ways (f == 1) n (eq-eqb f 1 (sym ha.1 ∙ ap coin_method q))) inv)
  | inl t ↦ inr (λ a b s ha hb ok inv pa pb. after_put b s (λ q. both_ways (g == 1) (subst (λ x. (x && (g == 1)) ≡ false) t apart) (eq-eqb g 1 (sym hb.1 ∙ ap coin_method q))) a pa)
]
  where
    put_permissible : (a : Coin) (s : ℤ) → (a ≡ Take → ⊥) → pos 0 ≤ℤ s → pos 0 ≤ℤ coin_change a s
    put_permissible Put s ne inv = omega (arith, ints)
    put_permissible Take s ne inv = absurd (ne refl)

    after_put : (b : Coin) (s : ℤ) → (b ≡ Take → ⊥) → (a : Coin) → pos 0 ≤ℤ coin_change a s → pos 0 ≤ℤ coin_change a (coin_change b s)
    after_put Take s ne a h = absurd (ne refl)
    after_put Put s ne Put h = omega (arith, ints)
    after_put Put s ne Take h = omega (arith, ints)

pub careless_symmetric : (f g : ℕ) → careless.conflict f g ≡ careless.conflict g f
careless_symmetric f g = and_either (f == 1) (g == 1)
