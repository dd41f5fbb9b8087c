use Rattle.std.proofs.Common.{◌∷◌}
use Rattle.std.specs.Prelude.{codes, map}
use Rattle.std.specs.Fmt.{decimal}
use Rattle.ham_plain.proofs.Printed.{ok_then, line_printed}
use Rattle.ham_plain.proofs.printer.push_unique.Goals as goal

pub returns : goal.returns
returns c =
    ok_then c.push_columns.result (line_printed _ _ _ (codes "invariant unique") (c.args.relation.now ∷ map decimal c.args.columns.now) c.in_ok-extend.ensures.ok) c.push_columns.ensures
