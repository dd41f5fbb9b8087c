use Rattle.ham_plain.proofs.Printed.{ok_then, terms_printed}
use Rattle.ham_plain.proofs.printer.push_terms_line.Goals as goal

pub returns : goal.returns
returns c =
    ok_then c.push_line_end.result (terms_printed _ _ _ _ _ c.args.start.now c.args.relation.now c.args.params.now c.args.terms.now c.in_ok-extend.ensures.ok c.in_ok-push_word.ensures c.in_ok-push_terms.ensures) c.push_line_end.ensures
