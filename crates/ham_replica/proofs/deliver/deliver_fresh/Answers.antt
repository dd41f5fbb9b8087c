use Rattle.std.proofs.Common.{◌<◌, sym, subst, ◌∙◌}
use Rattle.ham_replica.specs.Shown.{lists_of}
use Rattle.ham_replica.proofs.Items.{get_any}
use Rattle.ham_replica.proofs.Delivering.{taken_kept, fresh_as_told}
use Rattle.ham_replica.proofs.Staying.{one_frame}
use Rattle.ham_replica.proofs.deliver.deliver_fresh.Goals as goal

pub drain-settled-requires : goal.drain-settled-requires
drain-settled-requires c =
    taken_kept c.args.site.now (lists_of c.args.held.now) c.requires.kept c.args.call.now c.requires.may
    (lists_of c.take_call.new.held) c.in_ok-take_call.ensures

pub returns : goal.returns
returns c = λ which. rw c.from.ensures
    (fresh_as_told c.args.site.now (lists_of c.args.held.now) c.requires.kept c.args.call.now c.requires.may
    c.args.from which (lists_of c.take_call.new.held) (lists_of c.drain-settled.new.held) _ _ _ _ _ c.in_ok-take_call.ensures c.new-places.ensures.items c.drain-settled.ensures
    (c.index-count.ensures ∙ get_any c.drain-settled.new.held.logged.items c.args.call.now.lane _ 0 (subst (λ n. c.args.call.now.lane < n) (sym c.drain-settled.ensures.kept.shaped.logged) c.requires.may.lane)) (one_frame _ _ _ _ c.of_frames.ensures c.with_frame.ensures c.in_ok-rest.ensures.empty))
