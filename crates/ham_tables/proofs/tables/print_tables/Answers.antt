use Rattle.ham_tables.proofs.Written.{tables_are}
use Rattle.ham_tables.proofs.tables.print_tables.Goals as goal

pub returns : goal.returns
returns c =
    tables_are c.args.object.now c.args.plan.now c.new-text.result c.push_count.new.text c.push_count-2.new.text c.push_conflicts.new.text c.push_dependencies.new.text
    c.push_groups.new.text c.push_group_lanes.new.text c.push_free_lanes.new.text c.extend.new.self
    c.new-text.ensures
    (rw (← c.methods.ensures.methods) c.in_ok-push_count.ensures)
    (rw (← c.replicas.ensures.replicas) c.in_ok-push_count-2.ensures)
    c.in_ok-push_conflicts.ensures c.in_ok-push_dependencies.ensures c.in_ok-push_groups.ensures c.in_ok-push_group_lanes.ensures c.in_ok-push_free_lanes.ensures
    c.in_ok-extend.ensures.ok
