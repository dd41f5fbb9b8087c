use Rattle.std.proofs.Common.{◌∷◌, ℕ, List}
use Rattle.ham_tables.specs.TablesText.{name_if_in}
use Rattle.ham_tables.proofs.Written.{written-more}
use Rattle.ham_tables.proofs.tables.push_names_in.Goals as goal

pub loop-m-preserved : goal.loop-m-preserved
loop-m-preserved c = written-more (λ (name : List ℕ). 32 ∷ name) (name_if_in c.args.named.now.object.now c.args.named.now.plan.now c.args.group) c.loop-m.m c.args.text.now c.loop-m.text _ c.loop-m.invariant c.in_ok-push_name_if_in.ensures
