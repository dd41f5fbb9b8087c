use Rattle.std.proofs.Common.{◌≡◌, drop}
use Rattle.toml.specs.View.{items_view}
use Rattle.ham_toml.specs.Toml.{all_of, natural_in}
use Rattle.ham_toml.proofs.Arrays.{behind}
use Rattle.ham_toml.proofs.values.each_natural.Given as goal

abbrev pub invariant-loop-value : goal.invariant-loop-value
invariant-loop-value l = behind l.numbers (all_of natural_in (items_view (drop l.value-index l.values))) ≡ all_of natural_in (items_view l.values)
