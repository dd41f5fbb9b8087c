-- The executions in which one premise of the laws fails.
use Rattle.std.proofs.Common.{◌≡◌, ◌⊎◌, ◌++◌, ℕ, ℤ, pos, ◌+ℤ◌, ◌-ℤ◌, ◌≤ℤ◌, Bool, true, false, cond, ◌&&◌, [], ◌∷◌, refl, sym, ap, subst, ◌∙◌, inl, inr, arith}
use Rattle.std.proofs.lemmas.Int.{ints}
use Rattle.std.proofs.lemmas.Bool.{true≢false, both_ways, eq-eqb}
use Rattle.std.specs.Prelude.{◌==◌}
use Rattle.ham_syntax.specs.declared.act.Place.{Place}
use Rattle.ham_meaning.specs.Relations.{InvariantSufficient, PermissibleLeft}
use Rattle.ham_plan.specs.Lists.{In, StartsWith}
use Rattle.ham_laws.specs.Executions.{Constraints, IsClosed, IsWellCoordinated, IsInOrder, end_of}
use Rattle.ham_laws.specs.Coordinated.{EndAlike, IsPermissibleThroughout, HoldsThroughout}
use Rattle.ham_laws.specs.Register.{register, first, second}
use Rattle.ham_laws.specs.Purse.{Coin, coin_method, coin_change, purse, put_call, take_call}
use Rattle.ham_laws.specs.Purse.Coin.{Put, Take}
use Rattle.ham_laws.specs.Slips.{unordered, apart_settings, hasty, other_take, two_takes}
use Rattle.ham_laws.proofs.Places.{lanes_apart}
use Rattle.ham_plan.proofs.Lists.{each_of_two, each_of_three, true_or_false}

-- ---- settings that don't commute
turned_seen : In first (second ∷ []) → ⊥
turned_seen (inl q) = let numbers : ◌≡◌ {A = ℕ} 1 2 = ap (λ (c : Place). c.number) q in absurd (omega arith)
turned_seen (inr none) = none

seen : In second (first ∷ []) → ⊥
seen (inl q) = let numbers : ◌≡◌ {A = ℕ} 2 1 = ap (λ (c : Place). c.number) q in absurd (omega arith)
seen (inr none) = none

pub first_then_second : IsClosed register unordered apart_settings (first ∷ second ∷ [])
first_then_second = (inl refl, λ k. k, λ n need. need.0, (inr (inl refl), seen, λ n need. absurd need.0, tt))

pub second_then_first : IsClosed register unordered apart_settings (second ∷ first ∷ [])
second_then_first = (inr (inl refl), λ k. k, λ n need. need.0, (inl refl, turned_seen, λ n need. absurd need.0, tt))

logs_of_settings : (a b : Bool) → IsClosed register unordered apart_settings (cond a (first ∷ second ∷ []) (cond b (second ∷ first ∷ []) []))
logs_of_settings true b = first_then_second
logs_of_settings false true = second_then_first
logs_of_settings false false = tt

pub apart_settings_well : IsWellCoordinated register unordered apart_settings
apart_settings_well = record {
  in_order = (λ k. k, λ c k. absurd k, (seen, λ c k. absurd k, tt));
  decided_there = each_of_two first second (λ c. StartsWith (apart_settings.before c ++ c ∷ []) (apart_settings.log (apart_settings.decider c))) (second ∷ [], refl) (first ∷ [], refl);
  fits = λ c d. tt;
  permissible_at = λ c d. tt;
  before_closed = λ c d. tt;
  logs_closed = λ r. logs_of_settings (r == 1) (r == 2);
  conflicts_ordered = λ c d dc dd ne t. absurd (true≢false (sym t));
}

pub settings_end_apart : EndAlike register apart_settings (first ∷ second ∷ []) (second ∷ first ∷ []) → ⊥
settings_end_apart e = absurd (omega (arith, e))

-- ---- two takes of one coin
pub hasty_left : (f g : ℕ) → hasty.depends f g ≡ false → InvariantSufficient purse f ⊎ PermissibleLeft purse f g
hasty_left f g apart = elim (true_or_false (f == 1)) [
  | inr n ↦ inl (λ a s ha ok inv. put_permissible a s (λ q. both_ways (f == 1) n (eq-eqb f 1 (sym ha.1 ∙ ap coin_method q))) inv)
  | inl t ↦ inr (λ a b s ha hb ok inv pb pa. before_take b s (λ q. both_ways (g == 0) (subst (λ x. (x && (g == 0)) ≡ false) t apart) (eq-eqb g 0 (sym hb.1 ∙ ap coin_method q))) inv a pb pa)
]
  where
    put_permissible : (a : Coin) (s : ℤ) → (a ≡ Take → ⊥) → pos 0 ≤ℤ s → pos 0 ≤ℤ coin_change a s
    put_permissible Put s ne inv = omega (arith, ints)
    put_permissible Take s ne inv = absurd (ne refl)

    before_take : (b : Coin) (s : ℤ) → (b ≡ Put → ⊥) → pos 0 ≤ℤ s → (a : Coin) → pos 0 ≤ℤ coin_change b s → pos 0 ≤ℤ coin_change a (coin_change b s) → pos 0 ≤ℤ coin_change a s
    before_take Put s ne inv a pb pa = absurd (ne refl)
    before_take Take s ne inv Put pb pa = omega (arith, ints)
    before_take Take s ne inv Take pb pa = omega (arith, ints)

put_not_take : In take_call (put_call ∷ []) → ⊥
put_not_take (inl q) = lanes_apart take_call put_call refl q
put_not_take (inr none) = none

other_not_seen : In other_take (take_call ∷ put_call ∷ []) → ⊥
other_not_seen (inl q) = lanes_apart other_take take_call refl q
other_not_seen (inr (inl q)) = lanes_apart other_take put_call refl q
other_not_seen (inr (inr none)) = none

other_not_put : In other_take (put_call ∷ []) → ⊥
other_not_put (inl q) = lanes_apart other_take put_call refl q
other_not_put (inr none) = none

take_not_seen : In take_call (other_take ∷ put_call ∷ []) → ⊥
take_not_seen (inl q) = lanes_apart take_call other_take refl q
take_not_seen (inr (inl q)) = lanes_apart take_call put_call refl q
take_not_seen (inr (inr none)) = none

-- what a call needs stands in what its replica had logged, which is the put at most
module _ (p : Constraints) where
  put_closed : IsClosed purse p two_takes (put_call ∷ [])
  put_closed = (inl refl, λ k. k, λ n need. absurd need.0, tt)

  pub takes_closed : IsClosed purse p two_takes (put_call ∷ take_call ∷ other_take ∷ [])
  takes_closed = (inl refl, λ k. k, λ n need. absurd need.0, (inr (inl refl), put_not_take, λ n need. need.0, (inr (inr (inl refl)), other_not_seen, λ n need. inr need.0, tt)))

  other_closed : IsClosed purse p two_takes (put_call ∷ other_take ∷ take_call ∷ [])
  other_closed = (inl refl, λ k. k, λ n need. absurd need.0, (inr (inr (inl refl)), other_not_put, λ n need. need.0, (inr (inl refl), take_not_seen, λ n need. inr need.0, tt)))

  logs_by : (a b : Bool) → IsClosed purse p two_takes (cond a (put_call ∷ take_call ∷ other_take ∷ []) (cond b (put_call ∷ other_take ∷ take_call ∷ []) []))
  logs_by true b = takes_closed
  logs_by false true = other_closed
  logs_by false false = tt

  pub takes_logs : (r : ℕ) → IsClosed purse p two_takes (two_takes.log r)
  takes_logs r = logs_by (r == 1) (r == 2)

  pub takes_before : (c : Place) → In c two_takes.decided → IsClosed purse p two_takes (two_takes.before c)
  takes_before = each_of_three put_call take_call other_take (λ c. IsClosed purse p two_takes (two_takes.before c)) tt put_closed put_closed

pub takes_in_order : IsInOrder two_takes.before [] two_takes.decided
takes_in_order = (λ k. k, λ c k. absurd k, (put_not_take, λ c k. k, (other_not_seen, λ c k. inr k, tt)))

pub takes_there : (c : Place) → In c two_takes.decided → StartsWith (two_takes.before c ++ c ∷ []) (two_takes.log (two_takes.decider c))
takes_there = each_of_three put_call take_call other_take (λ c. StartsWith (two_takes.before c ++ c ∷ []) (two_takes.log (two_takes.decider c))) (take_call ∷ other_take ∷ [], refl) (other_take ∷ [], refl) (take_call ∷ [], refl)

pub takes_permissible : (c : Place) → In c two_takes.decided → purse.Permissible (end_of purse two_takes (two_takes.before c)) (two_takes.act c)
takes_permissible = each_of_three put_call take_call other_take (λ c. purse.Permissible (end_of purse two_takes (two_takes.before c)) (two_takes.act c)) (omega (arith, ints)) (omega (arith, ints)) (omega (arith, ints))

pub two_takes_well : IsWellCoordinated purse hasty two_takes
two_takes_well = record {
  in_order = takes_in_order;
  decided_there = takes_there;
  fits = λ c d. tt;
  permissible_at = takes_permissible;
  before_closed = takes_before hasty;
  logs_closed = takes_logs hasty;
  conflicts_ordered = λ c d dc dd ne t. absurd (true≢false (sym t));
}

pub takes_forbidden : IsPermissibleThroughout purse two_takes (put_call ∷ take_call ∷ other_take ∷ []) → ⊥
takes_forbidden h = let low : pos 0 ≤ℤ (pos 0 +ℤ pos 1 -ℤ pos 1 -ℤ pos 1) = h (put_call ∷ take_call ∷ []) [] other_take refl in absurd (omega (arith, ints))

pub takes_break : HoldsThroughout purse two_takes (put_call ∷ take_call ∷ other_take ∷ []) → ⊥
takes_break h = let low : pos 0 ≤ℤ (pos 0 +ℤ pos 1 -ℤ pos 1 -ℤ pos 1) = h (put_call ∷ take_call ∷ other_take ∷ []) [] refl in absurd (omega (arith, ints))
