use Rattle.std.proofs.Common.{◌<◌, map, arith, sym, subst, ◌∙◌}
use Rattle.ham_resend.specs.Giving.{Given}
use Rattle.std.proofs.lemmas.Bool.{ltb-true, and_parts}
use Rattle.ham_replica.proofs.Items.{length_map}
use Rattle.ham_replica.proofs.Shaped.{rulings_group}
use Rattle.ham_replica.proofs.refuse.test_request.Goals as goal

pub test_same_request-requires-clause-group : goal.test_same_request-requires-clause-group
test_same_request-requires-clause-group c =
    let long = length_map (map (λ (z : Given). z.ruled)) c.args.held.now.rulings in
    let senders = c.requires.kept.shaped.senders in
    let sender = c.requires.sender.1 in
    let yours = and_parts _ _ (sym c.is_led_by-yours.ensures ∙ c.if-not-yours.false) in
    let group = ltb-true _ _ yours.0 in
    subst (λ n. c.args.request.now.group < n) (sym (rulings_group c.args.held.now.rulings c.args.request.now.from _ (omega arith) c.requires.kept.shaped.groups)) group
