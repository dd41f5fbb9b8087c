-- A step is within a bound in one way at most.
use Rattle.std.specs.Prelude.{ℕ}
use Rattle.std.specs.Coded.{Unit-prop, le_prop}
use Rattle.ham_steps.specs.declared.step.Step.{Step}
use Rattle.ham_steps.specs.declared.step.Step.TheVariants as steps
use Rattle.ham_steps.specs.Steps.{IsWithin}

pub IsWithin-prop : (bound : ℕ) (st : Step) → IsProp (IsWithin bound st)
IsWithin-prop bound (steps.Insert r row) = Unit-prop
IsWithin-prop bound (steps.Delete r pattern) = Unit-prop
IsWithin-prop bound (steps.Change c k by) = le_prop
