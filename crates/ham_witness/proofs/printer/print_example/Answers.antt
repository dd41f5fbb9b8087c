use Rattle.ham_witness.proofs.Written.{printed}
use Rattle.ham_witness.proofs.printer.print_example.Goals as goal

pub returns : goal.returns
returns c =
    printed c.args.object.now c.args.claim.now c.args.example.now c.ids_of.result c.new-text.result c.push_claim.new.text c.push_rows.new.text c.push_values.new.text c.push_act.new.text c.push_second.new.text c.push_shown.new.text c.extend.new.self
    c.new-text.ensures c.ids_of.ensures c.in_ok-push_claim.ensures c.in_ok-push_rows.ensures c.in_ok-push_values.ensures c.in_ok-push_act.ensures c.in_ok-push_second.ensures c.in_ok-push_shown.ensures c.in_ok-extend.ensures.ok
