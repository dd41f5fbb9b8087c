use Rattle.std.proofs.Common.{◌≡◌, drop}
use Rattle.toml.specs.View.{items_view}
use Rattle.ham_forms.specs.Words.{term_of}
use Rattle.ham_toml.specs.Toml.{all_of, word_in}
use Rattle.ham_toml.proofs.Arrays.{behind}
use Rattle.ham_toml.proofs.values.each_term.Given as goal

abbrev pub invariant-loop-value : goal.invariant-loop-value
invariant-loop-value l = behind l.terms (all_of (word_in term_of) (items_view (drop l.value-index l.values))) ≡ all_of (word_in term_of) (items_view l.values)
