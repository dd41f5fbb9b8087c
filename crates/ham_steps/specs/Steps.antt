-- What steps do to a state, in order.
use Rattle.std.specs.Prelude.{ℕ, ◌≤◌, nat_abs, List, [], ◌∷◌}
use Rattle.ham_steps.specs.declared.step.Step.{Step}
use Rattle.ham_steps.specs.declared.step.Step.TheVariants as steps
use Rattle.ham_steps.specs.Pattern.{matches}
use Rattle.ham_steps.specs.Content.{State, with_row, without_rows, with_change}

-- the state after one step
abbrev pub after_step : Step → State → State
after_step (steps.Insert r row) s = with_row s r row
after_step (steps.Delete r pattern) s = without_rows s r (matches pattern)
after_step (steps.Change c k by) s = with_change s c k by

-- the state after the steps
abbrev pub after_steps : List Step → State → State
after_steps [] s = s
after_steps (st ∷ sts) s = after_steps sts (after_step st s)

-- a change is by at most the bound
abbrev pub IsWithin : ℕ → Step → Type 0
IsWithin bound (steps.Insert r row) = Unit {0}
IsWithin bound (steps.Delete r pattern) = Unit {0}
IsWithin bound (steps.Change c k by) = nat_abs by ≤ bound
