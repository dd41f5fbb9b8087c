use Rattle.std.proofs.Common.{◌≡◌, IsTrue, take}
use Rattle.std.specs.List.{AllByRecursion}
use Rattle.ham_syntax.specs.Names.{is_name}
use Rattle.ham_check.proofs.check.named_params.Given as goal

abbrev pub invariant-loop-param : goal.invariant-loop-param
invariant-loop-param l = record { same : l.params ≡ take l.param-index l.raw; named : AllByRecursion (λ p. IsTrue (is_name p.name)) l.params }
