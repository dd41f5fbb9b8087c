-- The opening state is small.
use Rattle.std.proofs.Common.{◌≡◌, ℕ, ◌≤◌, sym, subst, arith}
use Rattle.std.specs.Prelude.{nat_abs, ◌^◌}
use Rattle.ham_state.specs.Content.{State, opening, value}
use Rattle.ham_state.proofs.ContentLaws.{value-opening}

opened : (c k : ℕ) → nat_abs (value opening c k) ≤ 2 ^ 100
opened c k = subst (λ v. nat_abs v ≤ 2 ^ 100) (sym (value-opening c k)) (omega (arith))

-- every counter of the opening state is within the bound that steps ask
pub small : (s : State) → s ≡ opening → (c k : ℕ) → nat_abs (value s c k) ≤ 2 ^ 100
small s e = subst (λ (x : State). (c k : ℕ) → nat_abs (value x c k) ≤ 2 ^ 100) (sym e) opened
