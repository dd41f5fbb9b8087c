use Rattle.std.proofs.Common.{◌+◌, ◌<◌, ◌≤◌, arith}
use Rattle.ham_world.specs.declared.refusal.TheConstants.{MAX_STRETCH}
use Rattle.ham_world.proofs.Refused.{cuts_fit_when}
use Rattle.ham_world.proofs.refuse.cuts_fit.Goals as goal

pub returns : goal.returns
returns c = λ fs. λ e.
    let le : c.args.first ≤ c.args.last = omega (arith, c.if-last-first.false) in
    let few : c.args.last < c.args.first + MAX_STRETCH = omega (arith, c.if-last-first-ge-MAX_STRETCH.false) in
    cuts_fit_when fs c.args.first c.args.last c.args.cuts.now le few c.span-bytes.result.now c.args.link.now e c.span-bytes.ensures c.ascend.result c.ascend.ensures
