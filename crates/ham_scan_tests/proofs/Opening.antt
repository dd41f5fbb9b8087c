-- Counters are 0 in the opening state, and grow by a bound with each act.
use Rattle.std.proofs.Common.{◌≡◌, ℕ, ◌+◌, ◌*◌, ◌^◌, ◌≤◌, sym, subst, arith}
use Rattle.std.specs.Prelude.{nat_abs}
use Rattle.ham_state.specs.Content.{State, opening, value}
use Rattle.ham_state.proofs.ContentLaws.{value-opening}

pub at-opening : (s : State) (n : ℕ) → s ≡ opening → (c k : ℕ) → nat_abs (value s c k) ≤ n
at-opening s n e = subst (λ (x : State). (c k : ℕ) → nat_abs (value x c k) ≤ n) (sym e) (λ c k. subst (λ v. nat_abs v ≤ n) (sym (value-opening c k)) (omega (arith)))

one-more : (i : ℕ) → i * 2 ^ 35 + 2 ^ 35 ≡ (i + 1) * 2 ^ 35
one-more i = omega (arith)

pub grown : (s t : State) (i : ℕ) → ((c k : ℕ) → nat_abs (value s c k) ≤ i * 2 ^ 35) → ((n : ℕ) → ((c k : ℕ) → nat_abs (value s c k) ≤ n) → (c k : ℕ) → nat_abs (value t c k) ≤ n + 2 ^ 35) → (c k : ℕ) → nat_abs (value t c k) ≤ (i + 1) * 2 ^ 35
grown s t i h more c k = subst (λ m. nat_abs (value t c k) ≤ m) (one-more i) (more (i * 2 ^ 35) h c k)
