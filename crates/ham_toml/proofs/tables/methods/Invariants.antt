use Rattle.std.proofs.Common.{◌≡◌, drop}
use Rattle.std.specs.Prelude.{codes}
use Rattle.toml.specs.View.{items_view, table_view}
use Rattle.ham_toml.specs.Toml.{each, entry_in, section, method_in}
use Rattle.ham_toml.proofs.Arrays.{after}
use Rattle.ham_toml.proofs.tables.methods.Given as goal

abbrev pub invariant-loop-value : goal.invariant-loop-value
invariant-loop-value l = after l.methods (each (entry_in (codes "method") method_in) (items_view (drop l.value-index l.value-items))) ≡ section (codes "method") method_in (table_view l.table)
