use Rattle.std.specs.List.{flat_map}
use Rattle.ham_plain.specs.Printing.{method_text}
use Rattle.ham_plain.proofs.Printed.{of_equal, relations_printed, counters_printed, invariants_printed, object_printed}
use Rattle.ham_plain.proofs.printer.print_plain.Goals as goal

pub returns-clause-form : goal.returns-clause-form
returns-clause-form c =
    let o = c.args.object.now in
    object_printed _ _ _ _ _ _ o c.in_ok-text.ensures (of_equal relations_printed _ _ _ _ c.relations.ensures.relations c.in_ok-push_relations.ensures)
    (of_equal counters_printed _ _ _ _ c.counters.ensures.counters c.in_ok-push_counters.ensures) (of_equal (invariants_printed o) _ _ _ _ c.invariants.ensures.invariants c.in_ok-push_invariants.ensures)
    (of_equal (flat_map (method_text o)) _ _ _ _ c.methods.ensures.methods c.in_ok-push_methods.ensures) c.in_ok-extend.ensures.ok
