use Rattle.std.proofs.Common.{◌≡◌, drop}
use Rattle.std.specs.Prelude.{codes}
use Rattle.toml.specs.View.{items_view, table_view}
use Rattle.ham_toml.specs.Toml.{each, entry_in, section, counter_in}
use Rattle.ham_toml.proofs.Arrays.{after}
use Rattle.ham_toml.proofs.tables.counters.Given as goal

abbrev pub invariant-loop-value : goal.invariant-loop-value
invariant-loop-value l = after l.counters (each (entry_in (codes "counter") counter_in) (items_view (drop l.value-index l.value-items))) ≡ section (codes "counter") counter_in (table_view l.table)
