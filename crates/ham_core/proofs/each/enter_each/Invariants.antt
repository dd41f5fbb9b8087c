use Rattle.std.proofs.Common.{◌≡◌, ◌≤◌, ◌+◌, Some, length}
use Rattle.std.specs.Prelude.{vec_capacity}
use Rattle.std.specs.List.{AllByRecursion}
use Rattle.ham_turns.specs.Settings.{setting_of}
use Rattle.ham_journal.specs.Replies.{MayEnter}
use Rattle.ham_core.specs.Each.{standing}
use Rattle.ham_core.proofs.Entering.{GoesOn}
use Rattle.ham_core.proofs.each.enter_each.Given as goal

abbrev pub invariant-loop-input : goal.invariant-loop-input
invariant-loop-input g l =
    record {
      may : AllByRecursion (MayEnter (setting_of g.L.Home.plan) g.L.Home.me) l.inputs.items;
      room : length l.replies.items + length l.inputs.items ≤ vec_capacity l.replies;
      on : GoesOn g.L.Home.object g.L.Home.plan g.L.Home.me
          (standing (Some l.initial.guarded.journal) l.initial.seat.share.amount l.initial.tally.stops l.initial.tally.fulls l.initial.tally.refusals)
          (standing (Some l.guarded.journal) l.seat.share.amount l.tally.stops l.tally.fulls l.tally.refusals) l.initial.inputs.items l.inputs.items l.replies.items;
      number : l.seat.number ≡ l.initial.seat.number;
    }

abbrev pub decreases-loop-input : goal.decreases-loop-input
decreases-loop-input g l = length l.inputs.items
