use Rattle.std.proofs.Common.{◌∙◌, ap}
use Rattle.std.specs.Prelude.{unwrap_or}
use Rattle.std.specs.List.{list_any}
use Rattle.std.specs.Map.{lookup}
use Rattle.ham_content.specs.Numbers.{same}
use Rattle.ham_watch.proofs.Opening.{tally_of-opening, none_broken}
use Rattle.ham_watch.proofs.opened.watch.Goals as goal

pub returns-clause-watched : goal.returns-clause-watched
returns-clause-watched c = record {
  tallied = λ k. ap (λ es. unwrap_or (lookup (same k) es) 0) c.new.ensures.empty ∙ tally_of-opening c.args.invariant.now k;
  marked = λ k. ap (λ ks. list_any (same k) ks) c.new-2.ensures.empty ∙ none_broken c.args.invariant.now k c.requires;
}
