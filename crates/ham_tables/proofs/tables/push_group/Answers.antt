use Rattle.std.proofs.Common.{◌∷◌, []}
use Rattle.std.specs.Prelude.{codes}
use Rattle.std.specs.Fmt.{decimal}
use Rattle.ham_plan.specs.Plans.{leader_of}
use Rattle.ham_tables.specs.TablesText.{names_in}
use Rattle.ham_tables.proofs.Written.{line-of_names}
use Rattle.ham_tables.proofs.tables.push_group.Goals as goal

pub returns : goal.returns
returns c =
    line-of_names (codes "group") (decimal c.args.group ∷ codes "leader" ∷ decimal (leader_of c.args.named.now.plan.now c.args.group) ∷ []) (names_in c.args.named.now.object.now c.args.named.now.plan.now c.args.group)
    c.args.text.now c.push_numbers_of.new.text c.push_names_in.new.text c.push_line_end.new.text
    (rw (← c.leader_of.ensures.leader) c.in_ok-push_numbers_of.ensures) c.in_ok-push_names_in.ensures c.in_ok-push_line_end.ensures
