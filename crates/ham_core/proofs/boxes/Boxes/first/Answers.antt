use Rattle.std.proofs.Common.{◌≡◌, List, [], take, map, sym, ap, subst, arith}
use Rattle.std.specs.List.{AllByRecursion}
use Rattle.ham_replica.specs.Values.{words}
use Rattle.ham_replica.proofs.Items.{all_or}
use Rattle.ham_journal.specs.declared.limits.TheConstants.{MAX_COLLECTED}
use Rattle.ham_core.specs.declared.waiting.Waiting.{Waiting}
use Rattle.ham_core.specs.Waits.{IsSound, shown}
use Rattle.ham_core.proofs.Boxed.{item_box, box_beyond, view_length}
use Rattle.ham_core.proofs.boxes.Boxes.first.Goals as goal

pub first_of-requires : goal.first_of-requires
first_of-requires c =
    subst (AllByRecursion (IsSound (words c.args.replica.now.lists).decided))
    (sym (item_box c.self.inside.held.items c.args.self.now c.saturating_sub-at.result c.args.peer c.index.result.now c.self.view_is (omega (arith, c.if-at-len.true, c.len.ensures)) (omega arith) c.index.ensures))
    (all_or (AllByRecursion (IsSound (words c.args.replica.now.lists).decided)) c.args.self.now _ [] c.requires tt)
