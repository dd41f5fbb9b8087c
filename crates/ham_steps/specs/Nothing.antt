-- The step that fills the free places of a net.
use Rattle.std.specs.Prelude.{pos}
use Rattle.ham_steps.specs.declared.step.Step.{Step}
use Rattle.ham_steps.specs.declared.step.Step.TheVariants as steps

-- a change of 0
abbrev pub nothing : Step
nothing = steps.Change 0 0 (pos 0)
