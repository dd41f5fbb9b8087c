use Rattle.std.proofs.Common.{◌≡◌, ◌++◌, [], get_or, sym, subst, ◌∙◌}
use Rattle.std.specs.Prelude.{OnOk}
use Rattle.ham_site.specs.Sites.{setting_at}
use Rattle.ham_turns.specs.Sends.{due_requests}
use Rattle.ham_replica.specs.Values.{words}
use Rattle.ham_replica.specs.Shown.{lists_of}
use Rattle.ham_replica.proofs.Ticking.{if_is, group_due}
use Rattle.ham_replica.proofs.tick.push_group.Goals as goal

pub returns : goal.returns
returns c =
    subst (λ l. OnOk c.push_all.result (c.push_all.new.out.items ≡ c.args.out.now.items ++ l))
    (if_is (setting_at c.args.site.now) c.args.peer c.args.group c.args.peer (due_requests (words (lists_of c.args.held.now))) c.in_ok-due.field-0.items (sym c.decider_of.ensures ∙ c.if-decider_of-peer.false)
    (c.in_ok-due.ensures ∙ group_due c.args.group (get_or c.args.held.now.asks c.args.group [])))
    c.push_all.ensures
